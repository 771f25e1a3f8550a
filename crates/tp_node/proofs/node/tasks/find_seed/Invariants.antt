use Rattle.std.specs.Prelude.{ℕ, ◌≤◌, ◌<◌}
use Rattle.tp_node.{proofs.node.tasks.find_seed.Given.invariant-loop-task as goal, specs.Nodes.IsSeed}

abbrev pub invariant-loop-task : goal
invariant-loop-task g l = (u : ℕ) → l.from ≤ u → u < l.task → IsSeed (g.G.Graph.meaning l.graph) l.nodes l.node.0 l.local.store u → ⊥
