-- The graph of a tree of sums keeps the invariant of task graphs: feeds go to higher tasks, and each slot has exactly
-- one.
use Rattle.pool_samples.specs.Trees.{IsReduce, reduce_graph}
use Rattle.std.proofs.{Common.{◌<◌, ◌-◌, ◌*◌, ℕ, arith}, lemmas.Bool.Decides.nat_tests}
use Rattle.tp_graph.specs.Graphs.{IsLawful, FillsSlot, IsFilled}

fills : (leaves seed p k : ℕ) → p < 2 * leaves - 1 → k < (reduce_graph leaves seed).feeds p → FillsSlot (reduce_graph leaves seed) p k
unfolding reduce_graph
fills leaves seed p k h q = record {
  higher = grind (arith, nat_tests);
  known = grind (arith, nat_tests);
  within = grind (arith, nat_tests);
  source_is = grind (arith, nat_tests);
  turn_is = grind (arith, nat_tests);
}

filled : (leaves seed t s : ℕ) → t < 2 * leaves - 1 → s < (reduce_graph leaves seed).arity t → IsFilled (reduce_graph leaves seed) t s
unfolding reduce_graph
filled leaves seed t s h q = record {
  lower = grind (arith, nat_tests);
  within = grind (arith, nat_tests);
  target_is = grind (arith, nat_tests);
  slot_is = grind (arith, nat_tests);
}

pub reduce_lawful : (leaves seed : ℕ) → IsReduce leaves seed → IsLawful (reduce_graph leaves seed)
unfolding reduce_graph
reduce_lawful leaves seed h = record {
  few_inputs = λ t p. grind (arith, nat_tests);
  few_classes = λ t p. grind (arith, nat_tests);
  homes = λ t m p q r. omega arith;
  feeds_fill = λ p k h q. fills leaves seed p k h q;
  slots_filled = λ t s h q. filled leaves seed t s h q;
}
