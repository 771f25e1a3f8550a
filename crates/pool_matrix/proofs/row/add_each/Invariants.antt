use Rattle.pool_matrix.proofs.Refused.{◌≡◌, length, Some, gather, row_entry}
use Rattle.pool_matrix.proofs.row.add_each.Given as goal

abbrev pub invariant-loop-z : goal.invariant-loop-z
invariant-loop-z l = record {
  long : length l.sums ≡ l.side;
  same : gather l.side (row_entry l.matrices.order l.matrices.left.now l.matrices.right.now l.x l.y l.start l.z l.initial.sums)
      ≡ Some l.sums;
}
