-- The graph of a grid keeps the invariant of task graphs, whatever its relation: the s-th of those that feed a column
-- and the rank among them are inverse to each other.
use Rattle.pool_kernels.specs.{Grids.{IsNarrow, Relation, grid_graph, input, output}, Ranks.{nth_is, rank_is}}
use Rattle.std.proofs.Common.{◌≡◌, ◌<◌, ◌≤◌, ◌+◌, ◌*◌, ◌/◌, ◌%◌, ℕ, zero, suc, ℤ, List, Option, refl, arith}
use Rattle.std.proofs.lemmas.{Bool.{lt-ltb, Decides.nat_tests}, Nat.{div-add-mod', div-mul-add, div_below, mod-mul-add, mul-add-lt}}
use Rattle.tp_graph.specs.Graphs.{IsLawful, FillsSlot, IsFilled}

module _ (r : Relation) (w steps : ℕ) (rule : ℕ → List (List ℤ) → Option (List ℤ)) (some : 0 < w) where
  fills : (p k : ℕ) → p < steps * w → k < (grid_graph r w steps rule).feeds p → FillsSlot (grid_graph r w steps rule) p k
  unfolding grid_graph
  fills p k h few =
      let q : ℕ = p / w in
      let c : ℕ = p % w in
      let i : ℕ = output r w (suc q) c k in
      let next : suc q < steps = grind (arith, nat_tests, few) in
      let is = nth_is (λ i. r (suc q) c i) w k (grind (arith, nat_tests, few)) in
      let own = rank_is (λ j. r (suc q) j i) w c (omega arith) is.has in
      let inside : i < w = is.below in
      record {
        higher = omega (arith, div-add-mod' p w);
        known = omega (arith, mul-add-lt (suc q) w i steps next inside);
        within = rw (div-mul-add (suc q) w i inside, mod-mul-add (suc q) w i inside) own.within;
        source_is = rw (div-mul-add (suc q) w i inside, mod-mul-add (suc q) w i inside, own.nth_of) (div-add-mod' p w);
        turn_is = rw (div-mul-add (suc q) w i inside, mod-mul-add (suc q) w i inside, own.nth_of) is.before;
      }

  filled : (t s q : ℕ) → t / w ≡ q → t < steps * w → s < (grid_graph r w steps rule).arity t → IsFilled (grid_graph r w steps rule) t s
  unfolding grid_graph
  filled t s zero e h few = let none = rw e at few in absurd (omega arith)
  filled t s (suc q) e h few =
      let i : ℕ = t % w in
      let j : ℕ = input r w (suc q) i s in
      let is = nth_is (λ j. r (suc q) j i) w s (rw e at few) in
      let own = rank_is (λ x. r (suc q) j x) w i (omega arith) is.has in
      let inside : j < w = is.below in
      let low : suc q < steps = rw e at (div_below t w steps some h) in
      let place : suc q * w + i ≡ t = rw e at (div-add-mod' t w) in
      record {
        lower = rw e (omega (arith, place));
        within = rw (e, div-mul-add q w j inside, mod-mul-add q w j inside, lt-ltb (suc q) steps low) own.within;
        target_is = rw (e, div-mul-add q w j inside, mod-mul-add q w j inside, own.nth_of) place;
        slot_is = rw (e, div-mul-add q w j inside, mod-mul-add q w j inside, own.nth_of) is.before;
      }

  home_within : (c m : ℕ) → c < w → 1 ≤ m → c * m / w < m
  home_within c m h p = div_below (c * m) w m some (omega (arith, mul-add-lt c m 0 w h (omega arith)))

pub grid_lawful : (r : Relation) (w steps : ℕ) (rule : ℕ → List (List ℤ) → Option (List ℤ)) → 1 ≤ w → IsNarrow r w steps
    → IsLawful (grid_graph r w steps rule)
unfolding grid_graph
grid_lawful r w steps rule some narrow = record {
  few_inputs = λ t p. let positive : 0 < w = omega arith in narrow (t / w) (t % w) (div_below t w steps (omega arith) p) (omega arith);
  few_classes = λ t p. omega arith;
  homes = λ t m p q few. let positive : 0 < w = omega arith in home_within r w steps rule (omega arith) (t % w) m (omega arith) q;
  feeds_fill = λ p k a b. fills r w steps rule (omega arith) p k a b;
  slots_filled = λ t s a b. filled r w steps rule (omega arith) t s (t / w) refl a b;
}
