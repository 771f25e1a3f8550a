use Rattle.tp_slots.proofs.Lemmas.{◌≡◌, ℕ, ◌<◌, [], get_or, places_of, EachHolds}
use Rattle.tp_slots.proofs.slab_slots.pop_from.Given as goal

abbrev pub invariant-loop-queue : goal.invariant-loop-queue
invariant-loop-queue l = record {
  places : places_of l.queues ≡ places_of l.initial.queues;
  empty : (k : ℕ) → k < l.queue-index → get_or (places_of l.queues) k [] ≡ [];
  capacity : (n : ℕ) → EachHolds n l.initial.queues → EachHolds n l.queues;
}
