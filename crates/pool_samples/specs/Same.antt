-- When two sample pools are the same: if their numbers are.
use Rattle.pool_samples.specs.{Products.{IsProduct, IsProduct-prop}, Trees.{IsReduce, IsReduce-prop}, Waves.{IsWavefront, IsWavefront-prop}}
use Rattle.pool_samples.specs.declared.{product.Product.Product, reduce.Reduce.Reduce, wavefront.Wavefront.Wavefront}
use Rattle.std.proofs.{Common.{◌≡◌, ℕ, true, ◌&&◌, eqb, arith}, lemmas.Bool.Decides.nat_tests}
use mathlib.Core.HLevel.{is_prop→PathP}

-- two or three pairs of numbers that a test finds equal are equal
pub both_same : (a b c d : ℕ) → (eqb a b && eqb c d) ≡ true → (a ≡ b) × (c ≡ d)
both_same a b c d h = (grind (arith, nat_tests), grind (arith, nat_tests))

pub three_same : (a b c d e f : ℕ) → (eqb a b && (eqb c d && eqb e f)) ≡ true → (a ≡ b) × (c ≡ d) × (e ≡ f)
three_same a b c d e f h = (grind (arith, nat_tests), grind (arith, nat_tests), grind (arith, nat_tests))

-- pools with the same numbers are the same
pub product_same : (a b : Product) → (a.tiles ≡ b.tiles) × (a.side ≡ b.side) × (a.seed ≡ b.seed) → a ≡ b
product_same a b e = λ i. record {
  tiles = e.0 i;
  side = e.1 i;
  seed = e.2 i;
  in_rules = is_prop→PathP (λ i. IsProduct (e.0 i) (e.1 i) (e.2 i)) (λ i. IsProduct-prop (e.0 i) (e.1 i) (e.2 i)) a.in_rules b.in_rules i;
}

pub wavefront_same : (a b : Wavefront) → (a.rows ≡ b.rows) × (a.columns ≡ b.columns) × (a.seed ≡ b.seed) → a ≡ b
wavefront_same a b e = λ i. record {
  rows = e.0 i;
  columns = e.1 i;
  seed = e.2 i;
  in_rules =
      is_prop→PathP (λ i. IsWavefront (e.0 i) (e.1 i) (e.2 i)) (λ i. IsWavefront-prop (e.0 i) (e.1 i) (e.2 i)) a.in_rules b.in_rules i;
}

pub reduce_same : (a b : Reduce) → (a.leaves ≡ b.leaves) × (a.seed ≡ b.seed) → a ≡ b
reduce_same a b e = λ i. record {
  leaves = e.0 i;
  seed = e.1 i;
  in_rules = is_prop→PathP (λ i. IsReduce (e.0 i) (e.1 i)) (λ i. IsReduce-prop (e.0 i) (e.1 i)) a.in_rules b.in_rules i;
}
