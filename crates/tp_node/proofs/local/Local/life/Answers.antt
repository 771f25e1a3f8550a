use Rattle.tp_node.proofs.Lemmas.{◌<◌, arith, subst, IsTrue, live_counts, LocalState, is_live, pending_here, Numbers, unfinished}
use Rattle.tp_node.proofs.local.Local.life.Goals as goal

pub returns-clause-active : goal.returns-clause-active
returns-clause-active c live =
    let some : 0 < unfinished c.self.inside.store.value =
    live_counts c.self.inside.store.value c.args.task (subst (λ o. IsTrue (is_live o)) c.life.ensures.life live) in
    subst (λ (l : LocalState Numbers). 0 < pending_here l) c.self.view_is (omega (arith, some))
