use Rattle.tp_slots.proofs.Lemmas.{◌≡◌, ◌<◌, None, ap, sym, ◌∙◌, arith, IsKept-inserted, with_items, held, get-items_of, idle_when_taken}
use Rattle.tp_slots.proofs.Lemmas.{item_at, with_item, content_of}
use Rattle.tp_slots.proofs.slab_slots.SlabSlotsSlots.take_reserved.Goals as goal

pub invariant_of-self : goal.invariant_of-self
invariant_of-self g c =
    IsKept-inserted c.self.inside.items _ _ _ c.insert_reserved.result c.args.item c.self.invariant (rw (← c.self.view_is) at c.requires)
    c.insert_reserved.ensures.updates c.insert_reserved.ensures.len c.insert_reserved.ensures.capacity

pub returns-clause-fresh : goal.returns-clause-fresh
returns-clause-fresh g c =
    ap (λ s. item_at s.content c.insert_reserved.result) (sym c.self.view_is) ∙ get-items_of c.self.inside.items c.insert_reserved.result
    ∙ c.insert_reserved.ensures.was_vacant

pub returns-clause-content : goal.returns-clause-content
returns-clause-content g c =
    with_items c.self.inside.items _ _ c.insert_reserved.result c.args.item c.insert_reserved.ensures.updates
    ∙ ap (λ s. with_item s.content c.insert_reserved.result c.args.item) c.self.view_is

pub returns-clause-idle : goal.returns-clause-idle
returns-clause-idle g c =
    let s = content_of c.self.inside.items c.self.inside.ready in
    let key = c.insert_reserved.result in
    let free : item_at s key ≡ None = get-items_of c.self.inside.items key ∙ c.insert_reserved.ensures.was_vacant in
    rw (with_items c.self.inside.items _ _ key c.args.item c.insert_reserved.ensures.updates)
    (idle_when_taken s key c.args.item c.self.invariant.sound free)

pub returns-clause-not_full : goal.returns-clause-not_full
returns-clause-not_full g c =
    let some : 0 < c.self.inside.room = rw (← c.self.view_is) at c.requires in
    omega (arith, held c.self.inside.items c.self.inside.ready _ c.self.view_is, c.self.invariant.within)
