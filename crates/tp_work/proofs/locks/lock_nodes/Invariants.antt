use Rattle.std.specs.Prelude.{◌≡◌, length, vec_capacity, vec_len}
use Rattle.tp_work.proofs.locks.lock_nodes.Given.{invariant-loop-node as goal}

abbrev pub invariant-loop-node : goal
invariant-loop-node g l = (vec_len l.node_slots ≡ length l.yielded) × (vec_capacity l.node_slots ≡ vec_capacity l.initial.node_slots)
