use Rattle.tp_slots.proofs.Lemmas.{ap, sym, ◌∙◌, arith, option_copied, has_key, get-items_of, item_at}
use Rattle.tp_slots.proofs.slab_slots.SlabSlotsSlots.get.Goals as goal

pub unwrap-requires : goal.unwrap-requires
unwrap-requires g c =
    let has = has_key c.self.inside.items c.self.inside.ready c.args.place (rw (← c.self.view_is) at c.requires) in
    grind (arith, has, c.get.ensures)

pub returns : goal.returns
returns g c =
    ap (λ s. item_at s.content c.args.place) (sym c.self.view_is) ∙ get-items_of c.self.inside.items c.args.place
    ∙ (sym c.get.ensures ∙ ap option_copied c.unwrap.ensures)
