use Rattle.std.proofs.Common.{◌≡◌, take, true}
use Rattle.tp_graph.specs.Values.{all_fit}
use Rattle.pool_blocks.proofs.steps.read_all.Given as goal

abbrev pub invariant-loop-i : goal.invariant-loop-i
invariant-loop-i l = all_fit (take l.i l.cells) ≡ true
