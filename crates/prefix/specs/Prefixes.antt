-- Prefix sums, and the relation and the rule that compute them.
use Rattle.std.specs.Prelude.{ℕ, ◌≤◌, ◌+◌, ◌-◌, ◌^◌, ◌==◌, ◌||◌, ℤ, ◌+ℤ◌, Bool, List, [], ◌∷◌, Option, Some, None, length}
use Rattle.tp_graph.specs.Values.{lone_of, then_some}
use Rattle.pool_blocks.specs.Lists.{at, list_of}
use Rattle.pool_kernels.specs.Sums.{sum_to}

-- the sum of the numbers up to each
abbrev pub prefixes : List ℤ → List ℤ
prefixes xs = list_of (length xs) (λ i. sum_to (i + 1) (at xs))

-- a column feeds itself in row t, and the column 2 ^ (t - 1) to its right
abbrev pub doubling : ℕ → ℕ → ℕ → Bool
doubling t j i = (j == i) || ((j + 2 ^ (t - 1)) == i)

-- the fewest rows that are enough for this many numbers: in row t, a sum has up to 2 ^ t numbers
pub record AreRows (count rows : ℕ) : Type 0 where
  pub some : 1 ≤ rows
  pub enough : count ≤ 2 ^ (rows - 1)
  pub fewest : (m : ℕ) → 1 ≤ m → count ≤ 2 ^ (m - 1) → rows ≤ m

-- what a task computes: its number, its only input, or the sum of its two
abbrev pub prefix_rule : List ℤ → ℕ → ℕ → List (List ℤ) → Option (List ℤ)
prefix_rule xs t i [] = Some (at xs i ∷ [])
prefix_rule xs t i (own ∷ []) = Some own
prefix_rule xs t i (left ∷ own ∷ []) = then_some (lone_of left) (λ a. then_some (lone_of own) (λ b. Some ((a +ℤ b) ∷ [])))
prefix_rule xs t i _ = None
