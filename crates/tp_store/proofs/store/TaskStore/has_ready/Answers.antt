use Rattle.tp_store.proofs.Changes.{is_some, ap, sym, ◌∙◌, nat_lt, front, available}
use Rattle.tp_store.proofs.store.TaskStore.has_ready.Goals as goal

pub returns : goal.returns
returns g c =
    let kept = c.self.invariant in
    ap (λ n. nat_lt 0 n.ready) kept.counted ∙ sym (available _ kept.sound) ∙ ap (λ v. is_some (front v.ready)) c.self.view_is
