use Rattle.std.proofs.Common.{◌≡◌, ◌+◌, ℕ, ℤ}
use Rattle.pool_blocks.specs.Lists.{list_of}
use Rattle.pool_kernels.specs.Numbers.{AreBy}
use Rattle.pool_kernels.proofs.values.value_by.Given as goal

abbrev pub invariant-loop-i : goal.invariant-loop-i
invariant-loop-i g l = record {
  same : (f : ℕ → ℤ) → AreBy l.count (goal.F-post g l.number) f → l.made.numbers ≡ list_of l.i f;
  room : l.made.room + l.i ≡ l.count;
}
