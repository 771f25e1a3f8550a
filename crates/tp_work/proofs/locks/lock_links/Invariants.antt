use Rattle.std.specs.Prelude.{◌≡◌, length, vec_capacity, vec_len}
use Rattle.tp_work.proofs.locks.lock_links.Given.{invariant-loop-pool_link as goal}

abbrev pub invariant-loop-pool_link : goal
invariant-loop-pool_link g l = (vec_len l.link_slots ≡ length l.yielded) × (vec_capacity l.link_slots ≡ vec_capacity l.initial.link_slots)
