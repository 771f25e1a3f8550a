use Rattle.std.specs.{Prelude.{◌≡◌, ◌≤◌, ◌+◌, length, vec_capacity, vec_len}, Vec.Iter.into_iter_items}
use Rattle.tp_work.proofs.locks.unlock_nodes.Given as goal

abbrev pub invariant-loop-node_slot : goal.invariant-loop-node_slot
invariant-loop-node_slot g l =
    (vec_len l.nodes ≡ length l.yielded) × (vec_len l.nodes + length (into_iter_items l.node_slot-iterator) ≤ vec_capacity l.nodes)
