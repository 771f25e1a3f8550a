use Rattle.tp_slots.proofs.Lemmas.{ap, sym, ◌∙◌, has_key, IsKept-removed, without_items, get-items_of, item_at, without_item}
use Rattle.tp_slots.proofs.slab_slots.SlabSlotsSlots.give_back.Goals as goal

pub remove-requires : goal.remove-requires
remove-requires g c = has_key c.self.inside.items c.self.inside.ready c.args.place (rw (← c.self.view_is) at c.requires.taken)

pub invariant_of-self : goal.invariant_of-self
invariant_of-self g c =
    IsKept-removed c.self.inside.items _ _ _ c.args.place c.self.invariant c.remove.ensures.updates c.remove.ensures.len
    c.remove.ensures.capacity (rw (← c.self.view_is) at c.requires)

pub returns-clause-value : goal.returns-clause-value
returns-clause-value g c =
    ap (λ s. item_at s.content c.args.place) (sym c.self.view_is) ∙ get-items_of c.self.inside.items c.args.place ∙ c.remove.ensures.value

pub returns-clause-content : goal.returns-clause-content
returns-clause-content g c =
    without_items c.self.inside.items _ _ c.args.place c.remove.ensures.updates
    ∙ ap (λ s. without_item s.content c.args.place) c.self.view_is
