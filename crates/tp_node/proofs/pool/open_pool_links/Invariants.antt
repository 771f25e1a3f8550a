use Rattle.std.specs.Prelude.{◌≡◌, map}
use Rattle.tp_node.specs.PoolLinks.{empty_pool_link}
use Rattle.tp_node.proofs.pool.open_pool_links.Given as goal

abbrev pub invariant-loop-share : goal.invariant-loop-share
invariant-loop-share g l = l.pool_links.items ≡ map empty_pool_link l.yielded
