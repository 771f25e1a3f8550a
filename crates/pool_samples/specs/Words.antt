-- The specifications of sample pools, as texts.
use Rattle.std.specs.Prelude.{◌≡◌, ◌≢◌, ◌*◌, ◌++◌, ℕ, List, ◌∷◌, length, slice_index, codes, decimal}
use Rattle.pool_samples.specs.declared.any.AnyGraph.{AnyGraph}
use Rattle.pool_samples.specs.declared.any.AnyGraph.TheVariants as pool

-- two texts with a colon between them
abbrev pub joined : List ℕ → List ℕ → List ℕ
joined a b = a ++ 58 ∷ b

-- numbers in decimal, without leading zeros, joined by colons
abbrev pub two_numbers : ℕ → ℕ → List ℕ
two_numbers a b = joined (decimal a) (decimal b)

abbrev pub three_numbers : ℕ → ℕ → ℕ → List ℕ
three_numbers a b c = joined (decimal a) (two_numbers b c)

-- The specification of a graph: its kind and its numbers, joined by colons. Those of a product are its order, the side
-- of a tile and the seed.
abbrev pub word_of : AnyGraph → List ℕ
word_of (pool.Product p) = joined (codes "product") (three_numbers (p.tiles * p.side) p.side p.seed)
word_of (pool.Wavefront w) = joined (codes "wavefront") (three_numbers w.rows w.columns w.seed)
word_of (pool.Reduce r) = joined (codes "reduce") (two_numbers r.leaves r.seed)

-- digits without a sign and without leading zeros
pub record IsPlain (digits : List ℕ) : Type 0 where
  pub unsigned : slice_index digits 0 ≢ 43
  pub unpadded : slice_index digits 0 ≡ 48 → length digits ≡ 1
