-- The blocks of each step are a task graph.
use Rattle.pool_blocks.specs.Stencils.{BlockStep, befores, behinds, block_graph, source, target}
use Rattle.std.proofs.{Common.{◌≡◌, ◌<◌, ◌≤◌, ◌+◌, ◌-◌, ◌*◌, ◌/◌, ◌%◌, ℕ, List, ℤ, arith}, lemmas.{Bool.Decides.nat_tests, Nat.div_below}}
use Rattle.std.proofs.lemmas.Nat.{mul-le}
use Rattle.tp_graph.{proofs.Rows.{column-down, column-up, row-within, row-same}, specs.Graphs.{IsLawful, FillsSlot, IsFilled}}

-- a block's node is one of the nodes
pub home_below : (blocks t m : ℕ) → 0 < blocks → 1 ≤ m → (t % blocks) * m / blocks < m
home_below blocks t m some q =
    let column : t % blocks < blocks = omega (arith, some) in
    let few : (t % blocks) * m < m * blocks = omega (arith, q, mul-le (t % blocks + 1) m blocks m (omega (arith, column)) (omega arith)) in
    div_below ((t % blocks) * m) blocks m some few

module _ (next : BlockStep) (cells : List ℤ) (blocks size steps : ℕ) (some : 0 < blocks) where
  -- the slot of a feed is not below 0
  pub turn_small : (p k : ℕ) → p < (steps + 1) * blocks → k < (block_graph next cells blocks size steps).feeds p
      → k ≤ befores blocks (target blocks p k) + befores blocks p
  unfolding block_graph
  turn_small p k h q =
      let here : p % blocks < blocks = omega arith in
      let few : k < befores blocks p + 1 + behinds blocks p = grind (arith, nat_tests) in
      let inside : p % blocks + k - befores blocks p < blocks = grind (arith, nat_tests) in
      let place : target blocks p k + p % blocks ≡ p + blocks + (p % blocks + k - befores blocks p) = grind (arith, nat_tests) in
      let column : target blocks p k % blocks ≡ p % blocks + k - befores blocks p =
      column-down blocks p (target blocks p k) (p % blocks + k - befores blocks p) inside place in
      grind (arith, nat_tests)

  fills : (p k : ℕ) → p < (steps + 1) * blocks → k < (block_graph next cells blocks size steps).feeds p
      → FillsSlot (block_graph next cells blocks size steps) p k
  unfolding block_graph
  fills p k h q =
      let here : p % blocks < blocks = omega arith in
      let below : p + blocks < (steps + 1) * blocks = grind (arith, nat_tests) in
      let few : k < befores blocks p + 1 + behinds blocks p = grind (arith, nat_tests) in
      let inside : p % blocks + k - befores blocks p < blocks = grind (arith, nat_tests) in
      let place : target blocks p k + p % blocks ≡ p + blocks + (p % blocks + k - befores blocks p) = grind (arith, nat_tests) in
      let column : target blocks p k % blocks ≡ p % blocks + k - befores blocks p =
      column-down blocks p (target blocks p k) (p % blocks + k - befores blocks p) inside place in
      let within : target blocks p k < (steps + 1) * blocks =
      row-within (steps + 1) blocks p (target blocks p k) (p % blocks + k - befores blocks p) inside below place in
      record {
        higher = grind (arith, nat_tests);
        known = within;
        within = grind (arith, nat_tests);
        source_is = grind (arith, nat_tests);
        turn_is = grind (arith, nat_tests);
      }

  filled : (t s : ℕ) → t < (steps + 1) * blocks → s < (block_graph next cells blocks size steps).arity t
      → IsFilled (block_graph next cells blocks size steps) t s
  unfolding block_graph
  filled t s h q =
      let here : t % blocks < blocks = omega arith in
      let above : blocks ≤ t = grind (arith, nat_tests) in
      let few : s < befores blocks t + 1 + behinds blocks t = grind (arith, nat_tests) in
      let inside : t % blocks + s - befores blocks t < blocks = grind (arith, nat_tests) in
      let place : source blocks t s + blocks + t % blocks ≡ t + (t % blocks + s - befores blocks t) = grind (arith, nat_tests) in
      let column : source blocks t s % blocks ≡ t % blocks + s - befores blocks t =
      column-up blocks t (source blocks t s) (t % blocks + s - befores blocks t) inside above place in
      let below : source blocks t s + blocks < (steps + 1) * blocks =
      row-same (steps + 1) blocks t (source blocks t s + blocks) (t % blocks + s - befores blocks t) inside h place in
      record {
        lower = grind (arith, nat_tests);
        within = grind (arith, nat_tests);
        target_is = grind (arith, nat_tests);
        slot_is = grind (arith, nat_tests);
      }

pub block_lawful : (next : BlockStep) (cells : List ℤ) (blocks size steps : ℕ) → 1 ≤ blocks
    → IsLawful (block_graph next cells blocks size steps)
unfolding block_graph
block_lawful next cells blocks size steps some = record {
  few_inputs = λ t p. grind (arith, nat_tests);
  few_classes = λ t p. omega arith;
  homes = λ t m p q r. home_below blocks t m (omega (arith, some)) q;
  feeds_fill = λ p k a b. fills next cells blocks size steps (omega (arith, some)) p k a b;
  slots_filled = λ t s a b. filled next cells blocks size steps (omega (arith, some)) t s a b;
}
