-- Why there are no prefix sums.
use Rattle.pool_kernels.specs.RunFaults.{IsGridFault}
use Rattle.prefix.specs.{Prefixes.{AreRows, doubling, prefix_rule}, declared.sums.PrefixFault.{PrefixFault, TheVariants.{Grid, TooMany}}}
use Rattle.std.specs.Prelude.{ℕ, ℤ, ◌≤◌, ◌^◌, List, length}

-- At n nodes, with this many workers at each: there are too many numbers, or the grid of the fewest rows that are enough
-- has exactly the fault that is returned.
abbrev pub IsPrefixFault : ℕ → ℕ → List ℤ → PrefixFault → Type 0
IsPrefixFault n workers xs TooMany = 2 ^ 20 ≤ length xs
IsPrefixFault n workers xs (Grid fault) =
    (rows : ℕ) × AreRows (length xs) rows × IsGridFault n workers doubling (prefix_rule xs) (length xs) rows fault
