use Rattle.std.proofs.Common.{◌≡◌, ◌≤◌, ◌*◌, ◌+◌, drop, Some}
use Rattle.tp_graph.specs.Values.{then_some}
use Rattle.pool_kernels.specs.Stirrings.{total_of}
use Rattle.pool_kernels.proofs.stirring.total_of.Given as goal

abbrev pub invariant-loop-i : goal.invariant-loop-i
invariant-loop-i l = record {
  same : total_of l.values ≡ then_some (total_of (drop l.i l.values)) (λ m. Some (l.total + m));
  small : l.total ≤ 2147483648 * l.i;
}
