use Rattle.tp_store.proofs.Changes.{ap, ◌∙◌, IsKept-new, none_live, nothing_kept, unfinished}
use Rattle.tp_store.proofs.store.TaskStore.new.Goals as goal

pub invariant_of-result : goal.invariant_of-result
invariant_of-result g c =
    IsKept-new (g.S.Slots.content c.new.result) c.new-2.result c.new-3.result c.new.ensures c.new-2.ensures c.new-3.ensures.items
    c.new-3.ensures.len

pub returns-clause-unfinished : goal.returns-clause-unfinished
returns-clause-unfinished g c =
    ap unfinished
    (nothing_kept (g.S.Slots.content c.new.result) c.new-2.result c.new-3.result c.new.ensures c.new-2.ensures c.new-3.ensures.items)
    ∙ none_live g.row.V.Denot

pub returns-clause-content : goal.returns-clause-content
returns-clause-content g c =
    nothing_kept (g.S.Slots.content c.new.result) c.new-2.result c.new-3.result c.new.ensures c.new-2.ensures c.new-3.ensures.items
