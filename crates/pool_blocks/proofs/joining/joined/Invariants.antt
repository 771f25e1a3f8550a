use Rattle.pool_blocks.specs.Joined.{KeepsFrom, numbers_from}
use Rattle.std.proofs.Common.{◌≡◌, ◌≢◌, ◌<◌, ◌+◌, ℕ, Some, All}
use Rattle.tp_graph.specs.{Graphs.TaskGraph, Left.AreKept}
use Rattle.pool_blocks.proofs.joining.joined.Given as goal

abbrev pub invariant-loop-i : goal.invariant-loop-i
invariant-loop-i l = record {
  made : (g : TaskGraph) → AreKept g l.results → KeepsFrom g l.first l.i → numbers_from g l.first l.i ≡ Some l.all.items;
  there : (place : ℕ) → place < l.i → All (λ r. r.0.0 ≢ l.first + place) l.results → ⊥;
}
