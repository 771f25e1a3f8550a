use Rattle.tp_node.{proofs.Lemmas.{◌<◌, subst, OnSome, begun_counts, LocalState, pending_here, Numbers}, specs.Actions.open_count}
use Rattle.tp_node.proofs.local.Local.begin.Goals as goal

pub returns-clause-active : goal.returns-clause-active
returns-clause-active c =
    subst (λ (l : LocalState Numbers). OnSome c.begin.result (0 < pending_here l)) c.self.view_is
    (begun_counts c.self.inside.store.value (open_count c.self.inside.actions) (λ b. b.task) c.begin.result c.begin.ensures.life)
