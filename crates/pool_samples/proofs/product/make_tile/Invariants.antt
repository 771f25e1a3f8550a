use Rattle.pool_samples.proofs.Keeping.{◌≡◌, ◌*◌, ◌+◌, ◌/◌, ◌%◌, true, vec_len, vec_capacity, all_fit, sum_from, term, list_of}
use Rattle.pool_samples.proofs.product.make_tile.Given as goal

abbrev pub invariant-loop-r : goal.invariant-loop-r
invariant-loop-r l = record {
  same : l.made.items
      ≡ list_of (l.r * l.side) (λ e. sum_from (l.k * l.side) l.side (term l.seed (l.i * l.side + e / l.side) (l.j * l.side + e % l.side)));
  fit : all_fit l.made.items ≡ true;
  long : vec_len l.made ≡ l.r * l.side;
  room : vec_capacity l.made ≡ l.side * l.side;
}
