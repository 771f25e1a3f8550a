use Rattle.std.specs.Prelude.{◌≡◌, map}
use Rattle.tp_node.{proofs.pool.open_nodes.Given.invariant-loop-share as goal, specs.Nodes.first_node}

abbrev pub invariant-loop-share : goal
invariant-loop-share g l = l.nodes.items ≡ map (λ s. first_node l.graph l.count s.node) l.yielded
