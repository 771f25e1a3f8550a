use Rattle.tp_slots.proofs.Lemmas.{front_idle, IsKept-popped}
use Rattle.tp_slots.proofs.slab_slots.SlabSlotsSlots.pop_ready.Goals as goal

pub invariant_of-self : goal.invariant_of-self
invariant_of-self g c =
    IsKept-popped c.self.inside.items c.self.inside.ready c.pop_from.new.queues c.self.inside.room c.self.invariant
    c.pop_from.ensures.places (c.pop_from.ensures.capacity _ c.self.invariant.lists)

pub returns-clause-idle : goal.returns-clause-idle
returns-clause-idle g c =
    front_idle c.self.inside.items c.self.inside.ready c.pop_from.new.queues c.self.inside.room c.pop_from.result c.self.invariant
    c.pop_from.ensures.places c.pop_from.ensures.next
