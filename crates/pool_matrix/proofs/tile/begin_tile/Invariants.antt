use Rattle.pool_matrix.proofs.Refused.{◌≡◌, pos, get_or, vec_len, vec_capacity, Some, gather}
use Rattle.pool_matrix.proofs.tile.begin_tile.Given as goal

abbrev pub invariant-loop-e : goal.invariant-loop-e
invariant-loop-e l = record {
  same : gather l.e (λ e. Some (get_or l.before e (pos 0))) ≡ Some l.made.items;
  long : vec_len l.made ≡ l.e;
  room : vec_capacity l.made ≡ l.count;
}
