use Rattle.tp_core.proofs.Lemmas.{◌≡◌, length, subst, Accepted, list_length, list_count}
use Rattle.tp_core.proofs.accepting.Core.steps.Goals as goal

pub returns-clause-count : goal.returns-clause-count
returns-clause-count c =
    subst (λ (a : Accepted). length c.list.result.now ≡ list_length a) c.self.view_is
    (list_count c.self.inside.steps.recorded c.list.result.now c.self.inside.steps.steps c.list.ensures.listed c.list.ensures.unlisted)
