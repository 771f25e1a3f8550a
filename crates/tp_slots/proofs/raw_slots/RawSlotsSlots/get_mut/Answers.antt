use Rattle.tp_slots.proofs.Moves.{◌<◌, length, refl, ap, sym, ◌∙◌, arith, taken_raw, item_raw, table_long, located, opened, settled}
use Rattle.tp_slots.proofs.Moves.{content_is, rewritten, item_at, with_item, Roomy}
use Rattle.tp_slots.proofs.raw_slots.RawSlotsSlots.get_mut.Goals as goal

pub index-at-requires : goal.index-at-requires
index-at-requires g c =
    let slot = taken_raw c.self.inside.cells.cells c.self.inside.ready c.args.place (rw (← c.self.view_is) at c.requires) in
    omega (
      arith,
      slot.1,
      table_long c.self.inside.table.items c.self.inside.cells.cells c.self.invariant.tabled.table_is,
      c.self.inside.table.ok,
    )

pub item_mut-requires-clause-link : goal.item_mut-requires-clause-link
item_mut-requires-clause-link g c =
    let cs = c.self.inside.cells.cells in
    let slot = taken_raw cs c.self.inside.ready c.args.place (rw (← c.self.view_is) at c.requires) in
    let inside : c.args.place < length c.self.inside.table.items =
    omega (arith, slot.1, table_long c.self.inside.table.items cs c.self.invariant.tabled.table_is) in
    let at = located c.self.inside.table.items cs c.args.place _ c.self.invariant.tabled.table_is inside in
    (slot.2.0, λ i. ((at ∙ ap (λ a. a.ptr) (sym c.index-at.ensures)) i, slot.2.1 i))

pub item_mut-requires-clause-item : goal.item_mut-requires-clause-item
item_mut-requires-clause-item g c =
    (taken_raw c.self.inside.cells.cells c.self.inside.ready c.args.place (rw (← c.self.view_is) at c.requires)).0

pub invariant_of-self-lent : goal.invariant_of-self-lent
invariant_of-self-lent g c w = settled ((rewritten (opened c.self.invariant) c.args.place w (rw (← c.self.view_is) at c.requires)).0)

pub returns : goal.returns
returns g c = (
  (
    refl,
    λ w.
        let new = rewritten (opened c.self.invariant) c.args.place w (rw (← c.self.view_is) at c.requires) in
        ap {B = Roomy _} (λ m.
        record { content = m; room = c.self.inside.room }) (content_is _ c.self.inside.ready _ new.0.linked.ready_lists ∙ new.1)
        ∙ ap {A = Roomy _} {B = Roomy _} (λ s. record { content = with_item s.content c.args.place w; room = s.room }) c.self.view_is,
  ),
  record {
    writes_back = tt;
    value = ap (λ s. item_at s.content c.args.place) (sym c.self.view_is)
        ∙ item_raw c.self.inside.cells.cells c.self.inside.ready c.args.place ∙ c.item_mut.ensures.value;
    content = λ w. refl;
    room = λ w. refl;
  },
)
