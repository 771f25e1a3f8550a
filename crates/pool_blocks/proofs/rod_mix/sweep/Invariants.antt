use Rattle.std.proofs.Common.{◌≡◌, ◌++◌, drop, true, vec_len, vec_capacity, length}
use Rattle.tp_graph.specs.Values.{all_fit}
use Rattle.pool_blocks.specs.Heats.{sweep}
use Rattle.pool_blocks.proofs.rod_mix.sweep.Given as goal

abbrev pub invariant-loop-i : goal.invariant-loop-i
invariant-loop-i l = record {
  same : l.made.items ++ sweep l.before (drop l.i l.own) l.right ≡ sweep l.left l.own l.right;
  fit : all_fit l.made.items ≡ true;
  long : vec_len l.made ≡ l.i;
  room : vec_capacity l.made ≡ length l.own;
}
