use Rattle.pool_blocks.specs.{Grids.cell_after, Lists.list_of}
use Rattle.std.proofs.Common.{◌≡◌, ◌+◌, true, vec_len, vec_capacity}
use Rattle.tp_graph.specs.Values.{all_fit}
use Rattle.pool_blocks.proofs.grid_mix.sweep.Given as goal

abbrev pub invariant-loop-e : goal.invariant-loop-e
invariant-loop-e l = record {
  same : l.made.items ≡ list_of l.e (λ e. cell_after l.width l.cells (l.first + e));
  fit : all_fit l.made.items ≡ true;
  long : vec_len l.made ≡ l.e;
  room : vec_capacity l.made ≡ l.count;
}
