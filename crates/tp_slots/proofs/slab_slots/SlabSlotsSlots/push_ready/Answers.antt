use Rattle.tp_slots.proofs.Lemmas.{arith, length-map, has_room, IsKept-pushed}
use Rattle.tp_slots.proofs.slab_slots.SlabSlotsSlots.push_ready.Goals as goal

pub push_to-requires-clause-room : goal.push_to-requires-clause-room
push_to-requires-clause-room g c d =
    has_room c.self.inside.items c.self.inside.ready c.self.inside.room c.args.class c.args.place d c.self.invariant
    (rw (← c.self.view_is) at c.requires.idle)
    (omega (arith, c.requires.class_in_range, c.self.invariant.sound.four, length-map c.self.inside.ready (λ q. q.items)))

pub invariant_of-self : goal.invariant_of-self
invariant_of-self g c =
    IsKept-pushed c.self.inside.items c.self.inside.ready c.push_to.new.queues c.self.inside.room c.args.class c.args.place
    c.self.invariant (rw (← c.self.view_is) at c.requires.idle) c.requires.class_in_range c.push_to.ensures.places
    (c.push_to.ensures.capacity _ c.self.invariant.lists)
