-- The graph of a product keeps the invariant of task graphs: feeds go to higher tasks, and each slot has exactly one.
use Rattle.pool_samples.specs.Products.{IsProduct, product_graph}
use Rattle.std.proofs.{Common.{◌≡◌, ◌<◌, ◌≤◌, ◌+◌, ◌-◌, ◌*◌, ◌%◌, ℕ, arith}, lemmas.Bool.Decides.nat_tests}
use Rattle.tp_graph.{proofs.Rows.{mod_right, mod_left, right_within}, specs.Graphs.{IsLawful, FillsSlot, IsFilled}}

module _ (tiles side seed : ℕ) (some : 0 < tiles) where
  fills : (p k : ℕ) → p < tiles * tiles * tiles → k < (product_graph tiles side seed).feeds p
      → FillsSlot (product_graph tiles side seed) p k
  unfolding product_graph
  fills p k h q =
      let right : p % tiles + 1 < tiles → (p + 1) % tiles ≡ p % tiles + 1 = mod_right tiles p in
      let within : p % tiles + 1 < tiles → p + 1 < tiles * tiles * tiles = right_within (tiles * tiles) tiles p some h in
      record {
        higher = omega arith;
        known = grind (arith, nat_tests);
        within = grind (arith, nat_tests);
        source_is = omega arith;
        turn_is = grind (arith, nat_tests);
      }

  filled : (t s : ℕ) → t < tiles * tiles * tiles → s < (product_graph tiles side seed).arity t
      → IsFilled (product_graph tiles side seed) t s
  unfolding product_graph
  filled t s h q =
      let left : 0 < t % tiles → (t - 1) % tiles ≡ t % tiles - 1 = mod_left tiles t some in
      let positive : t % tiles < tiles = omega arith in
      let least : t % tiles ≤ t = omega arith in
      record {
        lower = grind (arith, nat_tests);
        within = grind (arith, nat_tests);
        target_is = grind (arith, nat_tests);
        slot_is = grind (arith, nat_tests);
      }

pub product_lawful : (tiles side seed : ℕ) → IsProduct tiles side seed → IsLawful (product_graph tiles side seed)
unfolding product_graph
product_lawful tiles side seed h = record {
  few_inputs = λ t p. grind (arith, nat_tests);
  few_classes = λ t p. grind (arith, nat_tests);
  homes = λ t m p q r. omega arith;
  feeds_fill = λ p k a b. fills tiles side seed (omega (arith, h.some_tiles)) p k a b;
  slots_filled = λ t s a b. filled tiles side seed (omega (arith, h.some_tiles)) t s a b;
}
