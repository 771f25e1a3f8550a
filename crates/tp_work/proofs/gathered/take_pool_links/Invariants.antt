use Rattle.std.specs.Prelude.{◌≡◌, map, vec_capacity}
use Rattle.tp_node.specs.PoolLinks.{link_of}
use Rattle.tp_work.proofs.gathered.take_pool_links.Given as goal

abbrev pub invariant-loop-pool_link : goal.invariant-loop-pool_link
invariant-loop-pool_link g l = (l.links.items ≡ map link_of l.yielded) × (vec_capacity l.links ≡ vec_capacity l.initial.links)
