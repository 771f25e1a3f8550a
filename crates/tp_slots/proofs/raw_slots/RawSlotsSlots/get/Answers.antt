use Rattle.tp_slots.proofs.Moves.{◌<◌, length, ap, sym, ◌∙◌, arith, taken_raw, item_raw, table_long, located, item_at}
use Rattle.tp_slots.proofs.raw_slots.RawSlotsSlots.get.Goals as goal

pub index-at-requires : goal.index-at-requires
index-at-requires g c =
    let slot = taken_raw c.self.inside.cells.cells c.self.inside.ready c.args.place (rw (← c.self.view_is) at c.requires) in
    omega (
      arith,
      slot.1,
      table_long c.self.inside.table.items c.self.inside.cells.cells c.self.invariant.tabled.table_is,
      c.self.inside.table.ok,
    )

pub item-requires-clause-link : goal.item-requires-clause-link
item-requires-clause-link g c =
    let cs = c.self.inside.cells.cells in
    let slot = taken_raw cs c.self.inside.ready c.args.place (rw (← c.self.view_is) at c.requires) in
    let inside : c.args.place < length c.self.inside.table.items =
    omega (arith, slot.1, table_long c.self.inside.table.items cs c.self.invariant.tabled.table_is) in
    let at = located c.self.inside.table.items cs c.args.place _ c.self.invariant.tabled.table_is inside in
    (slot.2.0, λ i. ((at ∙ ap (λ a. a.ptr) (sym c.index-at.ensures)) i, slot.2.1 i))

pub item-requires-clause-item : goal.item-requires-clause-item
item-requires-clause-item g c =
    (taken_raw c.self.inside.cells.cells c.self.inside.ready c.args.place (rw (← c.self.view_is) at c.requires)).0

pub returns : goal.returns
returns g c =
    ap (λ s. item_at s.content c.args.place) (sym c.self.view_is) ∙ item_raw c.self.inside.cells.cells c.self.inside.ready c.args.place
    ∙ c.item.ensures
