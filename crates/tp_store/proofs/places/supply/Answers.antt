use Rattle.tp_store.proofs.Changes.{◌≡◌, Some, ap, ◌∙◌, idle_with_item, item_at, with_item, item_here, at_item, with_listed, moved_counts}
use Rattle.tp_store.proofs.places.supply.Given as given
use Rattle.tp_store.proofs.places.supply.Goals as goal

pub list_if_ready-requires-clause-idle : goal.list_if_ready-requires-clause-idle
list_if_ready-requires-clause-idle g c = rw (c.get_mut-item.ensures.content c.fill.new.self) (idle_with_item _ _ _ c.requires.idle)

-- the item that was filled is there
filled : (g : given.Over) (c : goal.After-moved g)
    → item_at (g.S.Slots.content (g.S.Slots.rewritten c.args.slots.now c.args.place c.fill.new.self)) c.args.place ≡ Some c.fill.new.self
filled g c =
    ap (λ d. item_at d c.args.place) (c.get_mut-item.ensures.content c.fill.new.self)
    ∙ item_here (g.S.Slots.content c.args.slots.now) c.args.place c.fill.new.self

pub returns-clause-content : goal.returns-clause-content
returns-clause-content g c =
    rw c.get_mut-item.ensures.value
    (at_item _ _ _ (filled g c) c.list_if_ready.ensures.content
    ∙ ap (λ d. with_listed d c.args.place c.fill.new.self.task) (c.get_mut-item.ensures.content c.fill.new.self)
    ∙ ap (λ j. with_listed (with_item (g.S.Slots.content c.args.slots.now) c.args.place j) c.args.place j.task) c.fill.ensures)

pub returns-clause-counts : goal.returns-clause-counts
returns-clause-counts g c =
    rw c.get_mut-item.ensures.value
    (c.moved.ensures ∙ ap (λ l. moved_counts c.args.counts.now (Some l) c.list_if_ready.result) c.life-was.ensures
    ∙ ap (moved_counts c.args.counts.now (Some c.get_mut-item.result.now.task.life))
    (at_item _ _ _ (filled g c) c.list_if_ready.ensures.life ∙ ap (λ j. j.task.life) c.fill.ensures))
