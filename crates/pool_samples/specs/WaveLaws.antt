-- The graph of a wavefront keeps the invariant of task graphs: feeds go to higher tasks, and each slot has exactly one.
use Rattle.pool_samples.specs.Waves.{IsWavefront, wavefront_graph}
use Rattle.std.proofs.{Common.{◌≡◌, ◌<◌, ◌≤◌, ◌+◌, ◌-◌, ◌*◌, ◌%◌, ℕ, arith}, lemmas.Bool.Decides.nat_tests}
use Rattle.tp_graph.{proofs.Rows.{mod_right, mod_left, mod_down, mod_up, right_within}, specs.Graphs.{IsLawful, FillsSlot, IsFilled}}

module _ (rows columns seed : ℕ) (some : 0 < columns) where
  fills : (p k : ℕ) → p < rows * columns → k < (wavefront_graph rows columns seed).feeds p
      → FillsSlot (wavefront_graph rows columns seed) p k
  unfolding wavefront_graph
  fills p k h q =
      let right : p % columns + 1 < columns → (p + 1) % columns ≡ p % columns + 1 = mod_right columns p in
      let down : (p + columns) % columns ≡ p % columns = mod_down columns p some in
      let within : p % columns + 1 < columns → p + 1 < rows * columns = right_within rows columns p some h in
      record {
        higher = grind (arith, nat_tests);
        known = grind (arith, nat_tests);
        within = grind (arith, nat_tests);
        source_is = grind (arith, nat_tests);
        turn_is = grind (arith, nat_tests);
      }

  filled : (t s : ℕ) → t < rows * columns → s < (wavefront_graph rows columns seed).arity t
      → IsFilled (wavefront_graph rows columns seed) t s
  unfolding wavefront_graph
  filled t s h q =
      let left : 0 < t % columns → (t - 1) % columns ≡ t % columns - 1 = mod_left columns t some in
      let up : columns ≤ t → (t - columns) % columns ≡ t % columns = mod_up columns t some in
      let positive : t % columns < columns = omega arith in
      let least : t % columns ≤ t = omega arith in
      record {
        lower = grind (arith, nat_tests);
        within = grind (arith, nat_tests);
        target_is = grind (arith, nat_tests);
        slot_is = grind (arith, nat_tests);
      }

pub wavefront_lawful : (rows columns seed : ℕ) → IsWavefront rows columns seed → IsLawful (wavefront_graph rows columns seed)
unfolding wavefront_graph
wavefront_lawful rows columns seed h = record {
  few_inputs = λ t p. grind (arith, nat_tests);
  few_classes = λ t p. omega arith;
  homes = λ t m p q r. omega arith;
  feeds_fill = λ p k a b. fills rows columns seed (omega (arith, h.some_columns)) p k a b;
  slots_filled = λ t s a b. filled rows columns seed (omega (arith, h.some_columns)) t s a b;
}
