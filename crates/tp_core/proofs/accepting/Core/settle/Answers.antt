use Rattle.tp_core.proofs.Lemmas.{subst, Accepted, IsNeverEarly, accepted, InEach, never_early_in_each}
use Rattle.tp_core.proofs.accepting.Core.settle.Goals as goal

pub returns-clause-never_early : goal.returns-clause-never_early
returns-clause-never_early c =
    subst (λ (a : Accepted). InEach (IsNeverEarly a.nodes) a.steps) c.self.view_is
    (never_early_in_each c.self.inside.nodes (accepted c.self.inside).steps c.self.invariant.are_runs)
