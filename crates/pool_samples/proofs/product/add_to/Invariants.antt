use Rattle.pool_samples.proofs.Keeping.{◌≡◌, ◌<◌, ◌≤◌, ℕ, pos, take, get_or, true, None, all_fit, add_lists, added}
use Rattle.pool_samples.proofs.product.add_to.Given as goal

abbrev pub invariant-loop-e : goal.invariant-loop-e
invariant-loop-e l = record {
  few : l.lost ≤ l.e;
  same : l.lost ≡ 0 → (take l.e l.sums ≡ take l.e (add_lists l.input l.initial.sums)) × (all_fit (take l.e l.sums) ≡ true);
  none : 0 < l.lost → added l.input l.initial.sums ≡ None;
  rest : (k : ℕ) → l.e ≤ k → get_or l.sums k (pos 0) ≡ get_or l.initial.sums k (pos 0);
}
