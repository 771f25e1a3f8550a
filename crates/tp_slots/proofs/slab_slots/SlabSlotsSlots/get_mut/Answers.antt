use Rattle.tp_slots.proofs.Lemmas.{refl, ap, sym, ◌∙◌, has_key, IsKept-rewritten, with_value_roomy, get-items_of, item_at, with_item, Roomy}
use Rattle.tp_slots.proofs.slab_slots.SlabSlotsSlots.get_mut.Goals as goal

pub index_mut-requires : goal.index_mut-requires
index_mut-requires g c = has_key c.self.inside.items c.self.inside.ready c.args.place (rw (← c.self.view_is) at c.requires)

pub invariant_of-self-lent : goal.invariant_of-self-lent
invariant_of-self-lent g c w =
    IsKept-rewritten c.self.inside.items c.self.inside.ready c.self.inside.room c.args.place w c.self.invariant
    (has_key c.self.inside.items c.self.inside.ready c.args.place (rw (← c.self.view_is) at c.requires))

pub returns : goal.returns
returns g c = (
  (
    refl,
    λ w. with_value_roomy c.self.inside.items c.self.inside.ready c.self.inside.room c.args.place w
        (has_key c.self.inside.items c.self.inside.ready c.args.place (rw (← c.self.view_is) at c.requires))
        ∙ ap {A = Roomy _} {B = Roomy _} (λ s. record { content = with_item s.content c.args.place w; room = s.room }) c.self.view_is,
  ),
  record {
    writes_back = tt;
    value = ap (λ s. item_at s.content c.args.place) (sym c.self.view_is) ∙ get-items_of c.self.inside.items c.args.place
        ∙ c.index_mut.ensures.value;
    content = λ w. refl;
    room = λ w. refl;
  },
)
