-- The graph of a product keeps the invariant of task graphs: feeds go to higher tasks, and each slot has exactly one.
use Rattle.pool_matrix.specs.Matrices.{matrix_graph}
use Rattle.std.proofs.{Common.{◌≡◌, ◌<◌, ◌≤◌, ◌+◌, ◌-◌, ◌*◌, ◌%◌, ℕ, ℤ, List, arith}, lemmas.Bool.Decides.nat_tests}
use Rattle.tp_graph.{proofs.Rows.{mod_right, mod_left, right_within}, specs.Graphs.{IsLawful, FillsSlot, IsFilled}}

module _ (left right : List ℤ) (tiles side : ℕ) (some : 0 < tiles) where
  fills : (p k : ℕ) → p < tiles * tiles * tiles → k < (matrix_graph left right tiles side).feeds p
      → FillsSlot (matrix_graph left right tiles side) p k
  unfolding matrix_graph
  fills p k h q =
      let next : p % tiles + 1 < tiles → (p + 1) % tiles ≡ p % tiles + 1 = mod_right tiles p in
      let within : p % tiles + 1 < tiles → p + 1 < tiles * tiles * tiles = right_within (tiles * tiles) tiles p some h in
      record {
        higher = omega arith;
        known = grind (arith, nat_tests);
        within = grind (arith, nat_tests);
        source_is = omega arith;
        turn_is = grind (arith, nat_tests);
      }

  filled : (t s : ℕ) → t < tiles * tiles * tiles → s < (matrix_graph left right tiles side).arity t
      → IsFilled (matrix_graph left right tiles side) t s
  unfolding matrix_graph
  filled t s h q =
      let before : 0 < t % tiles → (t - 1) % tiles ≡ t % tiles - 1 = mod_left tiles t some in
      let positive : t % tiles < tiles = omega arith in
      let least : t % tiles ≤ t = omega arith in
      record {
        lower = grind (arith, nat_tests);
        within = grind (arith, nat_tests);
        target_is = grind (arith, nat_tests);
        slot_is = grind (arith, nat_tests);
      }

pub matrix_lawful : (left right : List ℤ) (tiles side : ℕ) → 1 ≤ tiles → IsLawful (matrix_graph left right tiles side)
unfolding matrix_graph
matrix_lawful left right tiles side h = record {
  few_inputs = λ t p. grind (arith, nat_tests);
  few_classes = λ t p. grind (arith, nat_tests);
  homes = λ t m p q r. omega arith;
  feeds_fill = λ p k a b. fills left right tiles side (omega (arith, h)) p k a b;
  slots_filled = λ t s a b. filled left right tiles side (omega (arith, h)) t s a b;
}
