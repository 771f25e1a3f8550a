use Rattle.std.proofs.Common.{◌≡◌, ◌<◌, ℕ, [], get_or, Some, length}
use Rattle.tp_graph.specs.Values.{value_of}
use Rattle.tp_graph.proofs.one_thread.inputs_after.Given as goal

abbrev pub invariant-loop-s : goal.invariant-loop-s
invariant-loop-s g l = record {
  long : length l.inputs.items ≡ l.s;
  right : (k : ℕ) → k < l.s
      → value_of (g.G.Graph.meaning l.fn.graph) ((g.G.Graph.meaning l.fn.graph).source l.task k) ≡ Some (get_or l.inputs.items k []);
}
