use Rattle.pool_matrix.proofs.Refused.{one_more, IsPartly}
use Rattle.pool_matrix.proofs.row.add_row_checked.Given as goal

abbrev pub invariant-loop-n : goal.invariant-loop-n
invariant-loop-n l = IsPartly l.n (one_more l.initial.sums l.left l.right) l.initial.sums l.sums
