use Rattle.pool_samples.proofs.Keeping.{◌≡◌, ◌<◌, ◌+◌, ◌*◌, ◌%◌, ◌++◌, true, vec_len, vec_capacity, all_fit, sum_from, term, list_of}
use Rattle.pool_samples.proofs.product.push_row.Given as goal

abbrev pub invariant-loop : goal.invariant-loop
invariant-loop l = record {
  inside : l.place < 21;
  place : 5 * l.place % 21 ≡ (5 * l.start + 2 * (l.y + l.counter) + l.seed) % 21;
  same : l.made.items ≡ l.initial.made.items ++ list_of l.counter (λ c. sum_from l.start l.side (term l.seed l.x (l.y + c)));
  fit : all_fit l.made.items ≡ true;
  long : vec_len l.made ≡ vec_len l.initial.made + l.counter;
  room : vec_capacity l.made ≡ vec_capacity l.initial.made;
}
