use Rattle.std.specs.Prelude.{◌≡◌, length, vec_capacity, vec_len}
use Rattle.tp_work.proofs.locks.unlock_links.Given as goal

abbrev pub invariant-loop-link_slot : goal.invariant-loop-link_slot
invariant-loop-link_slot g l = (vec_len l.links ≡ length l.yielded) × (vec_capacity l.links ≡ vec_capacity l.initial.links)
