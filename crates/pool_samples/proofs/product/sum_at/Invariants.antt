use Rattle.pool_samples.proofs.Keeping.{◌≡◌, ◌≤◌, ◌*◌, ◌*ℤ◌, pos, get_or, unsigned_abs, sum_from}
use Rattle.pool_samples.proofs.product.sum_at.Given as goal

abbrev pub invariant-loop-n : goal.invariant-loop-n
invariant-loop-n l = record {
  same : l.sum ≡ sum_from 0 l.n (λ n. get_or l.left n (pos 0) *ℤ get_or l.right n (pos 0));
  small : unsigned_abs l.sum ≤ 100 * l.n;
}
