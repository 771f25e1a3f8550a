-- How a row of a tile is computed, sum by sum.
use Rattle.std.specs.Prelude.{◌+◌, ◌*ℤ◌, ℕ, ℤ, pos, List, slice_index_or, Option}
use Rattle.pool_matrix.specs.Matrices.{term, more, running}

-- sum n of a row plus one product: a number of the left times number n of the right
abbrev pub one_more : List ℤ → ℤ → List ℤ → ℕ → Option ℤ
one_more sums left right n = more (slice_index_or sums n (pos 0)) (left *ℤ slice_index_or right n (pos 0))

-- sum n of a row that begins at column y of row x, plus the products of this many z from a start on
abbrev pub row_entry : ℕ → List ℤ → List ℤ → ℕ → ℕ → ℕ → ℕ → List ℤ → ℕ → Option ℤ
row_entry order left right x y start count sums n = running (slice_index_or sums n (pos 0)) start count (term order left right x (y + n))
