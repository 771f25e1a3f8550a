use Rattle.tp_team.proofs.Lemmas.{subst, State, NeverStuck, never_stuck}
use Rattle.tp_team.proofs.team.Team.invariant.Goals as goal

pub returns-clause-never_stuck : goal.returns-clause-never_stuck
returns-clause-never_stuck c =
    subst (λ (a : State). NeverStuck a) c.self.view_is
    (never_stuck c.self.inside.state c.has_ready-ready.result c.has_ready-ready.ensures.0 c.has_ready-ready.ensures.1
    c.never_silent.ensures c.invariant.ensures c.self.invariant)
