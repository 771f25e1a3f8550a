use Rattle.pool_matrix.proofs.Refused.{◌≡◌, ◌<◌, ◌*◌, ◌/◌, ◌%◌, ℕ, list_of, sum_to, term, HasOne, last_task}
use Rattle.pool_matrix.proofs.result.matrix_of.Given as goal

abbrev pub invariant-loop-q : goal.invariant-loop-q
invariant-loop-q l =
    record {
      made : l.made.items
          ≡ list_of l.q (λ m.
          sum_to (l.product.tiles * l.product.side)
          (term (l.product.tiles * l.product.side) l.product.left.now l.product.right.now (m / (l.product.tiles * l.product.side))
          (m % (l.product.tiles * l.product.side))));
      there : (place : ℕ) → place < l.q
          → HasOne l.results
          (last_task l.product.tiles l.product.side (place / (l.product.tiles * l.product.side))
          (place % (l.product.tiles * l.product.side)));
    }
