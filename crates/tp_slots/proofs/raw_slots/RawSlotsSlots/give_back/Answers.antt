use Rattle.tp_slots.proofs.Moves.{◌+◌, ◌<◌, length, refl, ap, sym, ◌∙◌, arith, taken_raw, item_raw, table_long, located, opened, settled}
use Rattle.tp_slots.proofs.Moves.{content_is, given_back, between, item_at, without_item}
use Rattle.tp_slots.proofs.raw_slots.RawSlotsSlots.give_back.Goals as goal

pub index-at-requires : goal.index-at-requires
index-at-requires g c =
    let idle = rw (← c.self.view_is) at c.requires in
    let slot = taken_raw c.self.inside.cells.cells c.self.inside.ready c.args.place idle.taken in
    omega (
      arith,
      slot.1,
      table_long c.self.inside.table.items c.self.inside.cells.cells c.self.invariant.tabled.table_is,
      c.self.inside.table.ok,
    )

pub take_item-item-requires-clause-link : goal.take_item-item-requires-clause-link
take_item-item-requires-clause-link g c =
    let cs = c.self.inside.cells.cells in
    let idle = rw (← c.self.view_is) at c.requires in
    let slot = taken_raw cs c.self.inside.ready c.args.place idle.taken in
    let inside : c.args.place < length c.self.inside.table.items =
    omega (arith, slot.1, table_long c.self.inside.table.items cs c.self.invariant.tabled.table_is) in
    let at = located c.self.inside.table.items cs c.args.place _ c.self.invariant.tabled.table_is inside in
    (slot.2.0, λ i. ((at ∙ ap (λ a. a.ptr) (sym c.index-at.ensures)) i, slot.2.1 i))

pub take_item-item-requires-clause-item : goal.take_item-item-requires-clause-item
take_item-item-requires-clause-item g c = let idle =
    rw (← c.self.view_is) at c.requires in (taken_raw c.self.inside.cells.cells c.self.inside.ready c.args.place idle.taken).0

pub put_front-requires-clause-chain : goal.put_front-requires-clause-chain
put_front-requires-clause-chain g c =
    let idle = rw (← c.self.view_is) at c.requires in
    let mid = between (opened c.self.invariant) c.args.place idle _ c.take_item-item.ensures.cells in
    (_, mid.0, mid.1)

pub put_front-requires-clause-link : goal.put_front-requires-clause-link
put_front-requires-clause-link g c =
    let cs = c.self.inside.cells.cells in
    let idle = rw (← c.self.view_is) at c.requires in
    let slot = taken_raw cs c.self.inside.ready c.args.place idle.taken in
    let inside : c.args.place < length c.self.inside.table.items =
    omega (arith, slot.1, table_long c.self.inside.table.items cs c.self.invariant.tabled.table_is) in
    let at = located c.self.inside.table.items cs c.args.place _ c.self.invariant.tabled.table_is inside in
    (between (opened c.self.invariant) c.args.place idle _ c.take_item-item.ensures.cells).2
    (record { ptr = c.index-at.result.now.ptr; place = c.args.place }) (
      slot.2.0,
      λ i. ((at ∙ ap (λ a. a.ptr) (sym c.index-at.ensures)) i, slot.2.1 i),
    )

pub invariant_of-self : goal.invariant_of-self
invariant_of-self g c =
    let idle = rw (← c.self.view_is) at c.requires in
    let mid = between (opened c.self.invariant) c.args.place idle _ c.take_item-item.ensures.cells in
    settled ((given_back (opened c.self.invariant) _ c.args.place idle _ _ _ c.take_item-item.ensures.cells refl
    c.put_front.ensures.others (c.put_front.ensures.chain _ mid.0 mid.1)).0)

pub returns-clause-value : goal.returns-clause-value
returns-clause-value g c =
    ap (λ s. item_at s.content c.args.place) (sym c.self.view_is) ∙ item_raw c.self.inside.cells.cells c.self.inside.ready c.args.place
    ∙ c.take_item-item.ensures.value

pub returns-clause-content : goal.returns-clause-content
returns-clause-content g c =
    let idle = rw (← c.self.view_is) at c.requires in
    let mid = between (opened c.self.invariant) c.args.place idle _ c.take_item-item.ensures.cells in
    let new = given_back (opened c.self.invariant) (c.self.inside.room + 1) c.args.place idle _ _ _ c.take_item-item.ensures.cells refl
    c.put_front.ensures.others (c.put_front.ensures.chain _ mid.0 mid.1) in
    content_is _ _ _ new.0.linked.ready_lists ∙ new.1 ∙ ap (λ s. without_item s.content c.args.place) c.self.view_is
