use Rattle.tp_slots.proofs.Moves.{settled, nothing}
use Rattle.tp_slots.proofs.raw_slots.RawSlotsSlots.new.Goals as goal

pub invariant_of-result : goal.invariant_of-result
invariant_of-result g c =
    rw (c.new.ensures.items, c.new-2.ensures.items, c.new-3.ensures)
    (settled (nothing _ _ _ _ _ _ c.no_slots.ensures.front c.no_slots.ensures.back c.no_slots-2.ensures.front c.no_slots-2.ensures.back
    c.no_slots-3.ensures.front c.no_slots-3.ensures.back
    c.no_slots-4.ensures.front c.no_slots-4.ensures.back c.no_slots-5.ensures.front c.no_slots-5.ensures.back))
