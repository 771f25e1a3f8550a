use Rattle.tp_slots.proofs.Moves.{◌<◌, length, ap, sym, ◌∙◌, arith, taken_raw, table_long, located, opened, settled, content_is, pushed}
use Rattle.tp_slots.proofs.Moves.{with_ready}
use Rattle.tp_slots.proofs.raw_slots.RawSlotsSlots.push_ready.Goals as goal

pub index-at-requires : goal.index-at-requires
index-at-requires g c =
    let idle = rw (← c.self.view_is) at c.requires.idle in
    let slot = taken_raw c.self.inside.cells.cells c.self.inside.ready c.args.place idle.taken in
    omega (
      arith,
      slot.1,
      table_long c.self.inside.table.items c.self.inside.cells.cells c.self.invariant.tabled.table_is,
      c.self.inside.table.ok,
    )

pub push_to-requires-clause-link : goal.push_to-requires-clause-link
push_to-requires-clause-link g c =
    let cs = c.self.inside.cells.cells in
    let idle = rw (← c.self.view_is) at c.requires.idle in
    let slot = taken_raw cs c.self.inside.ready c.args.place idle.taken in
    let inside : c.args.place < length c.self.inside.table.items =
    omega (arith, slot.1, table_long c.self.inside.table.items cs c.self.invariant.tabled.table_is) in
    let at = located c.self.inside.table.items cs c.args.place _ c.self.invariant.tabled.table_is inside in
    (slot.2.0, λ i. ((at ∙ ap (λ a. a.ptr) (sym c.index-at.ensures)) i, slot.2.1 i))

pub invariant_of-self : goal.invariant_of-self
invariant_of-self g c =
    let idle = rw (← c.self.view_is) at c.requires.idle in
    settled ((pushed (opened c.self.invariant) _ c.args.class c.args.place _ idle c.requires.class_in_range
    (c.push_to.ensures.others _ c.self.invariant.linked.ready_lists)
    (c.push_to.ensures.lists _ c.self.invariant.linked.ready_lists idle.unlisted c.self.invariant.linked.sound.once)).0)

pub returns-clause-content : goal.returns-clause-content
returns-clause-content g c =
    let idle = rw (← c.self.view_is) at c.requires.idle in
    let new = pushed (opened c.self.invariant) _ c.args.class c.args.place _ idle c.requires.class_in_range
    (c.push_to.ensures.others _ c.self.invariant.linked.ready_lists)
    (c.push_to.ensures.lists _ c.self.invariant.linked.ready_lists idle.unlisted c.self.invariant.linked.sound.once) in
    content_is _ _ _ new.0.linked.ready_lists ∙ new.1 ∙ ap (λ s. with_ready s.content c.args.class c.args.place) c.self.view_is
