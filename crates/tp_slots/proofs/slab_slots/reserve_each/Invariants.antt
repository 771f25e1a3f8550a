use Rattle.tp_slots.proofs.Lemmas.{◌≡◌, ℕ, take, places_of, EachHolds}
use Rattle.tp_slots.proofs.slab_slots.reserve_each.Given as goal

abbrev pub invariant-loop-queue : goal.invariant-loop-queue
invariant-loop-queue l = record {
  places : places_of l.queues ≡ places_of l.initial.queues;
  capacity : (n : ℕ) → EachHolds n l.initial.queues → EachHolds n l.queues;
  done : EachHolds l.places (take l.queue-index l.queues);
}
