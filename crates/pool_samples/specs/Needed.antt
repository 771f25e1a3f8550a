-- Finding the numbers of a table among results, by the ranks of the tasks whose values it needs.
use Rattle.pool_samples.specs.{Any.any_graph, Tables.{HasNone, table_of, task_at}, declared.any.AnyGraph.AnyGraph}
use Rattle.std.specs.{Borrow.Bor, Prelude.{◌≡◌, ◌<◌, ◌≤◌, ◌+◌, ◌-◌, ◌*◌, ℕ, ℤ, pos, Bool, true, false, List, Option, Some, None, IsSomeAnd}}
use Rattle.std.specs.Prelude.{length, slice_index_or}
use Rattle.tp_graph.specs.{Serial.Results, Values.value_of}
use Rattle.pool_samples.specs.declared.any.AnyGraph.TheVariants as pool

-- How many tasks have a value that the table needs, and which these are, in rising order.
abbrev pub needed : AnyGraph → ℕ
needed (pool.Product p) = p.tiles * p.tiles
needed (pool.Wavefront w) = w.rows * w.columns
needed (pool.Reduce r) = 1

abbrev pub needed_task : AnyGraph → ℕ → ℕ
needed_task (pool.Product p) k = k * p.tiles + (p.tiles - 1)
needed_task (pool.Wavefront w) k = k
needed_task (pool.Reduce r) k = 2 * r.leaves - 2

-- the value of the needed task of that rank has a cell of the table at a position
pub record HasCell (graph : AnyGraph) (i j rank place : ℕ) : Type 0 where
  pub known : rank < needed graph
  pub task_is : needed_task graph rank ≡ task_at graph i j
  pub numbers : List ℤ
  pub is_value : value_of (any_graph graph) (needed_task graph rank) ≡ Some numbers
  pub within : place < length numbers
  pub is_cell : slice_index_or numbers place (pos 0) ≡ (table_of graph).at i j

-- what is found for the needed task of a rank: that no result is of it; or its value, and that a result is of it
abbrev pub IsFound : AnyGraph → Results → ℕ → Option (Bor (List ℤ)) → Type 0
IsFound graph results rank None = HasNone results (needed_task graph rank)
IsFound graph results rank (Some found) =
    (value_of (any_graph graph) (needed_task graph rank) ≡ Some found.now) × ¬ HasNone results (needed_task graph rank)

-- what is found for each needed task
abbrev pub IsIndex : AnyGraph → Results → List (Option (Bor (List ℤ))) → Type 0
IsIndex graph results values = (rank : ℕ) → rank < needed graph → IsFound graph results rank (slice_index_or values rank None)

-- whether a result is of the needed task of a rank
abbrev pub IsKnown : AnyGraph → Results → ℕ → Bool → Type 0
IsKnown graph results rank false = HasNone results (needed_task graph rank)
IsKnown graph results rank true = ¬ HasNone results (needed_task graph rank)

-- for which needed tasks there are results
abbrev pub IsMarked : AnyGraph → Results → List Bool → Type 0
IsMarked graph results known = (rank : ℕ) → rank < needed graph → IsKnown graph results rank (slice_index_or known rank false)

-- the value of each needed task was found
pub record HasValues (graph : AnyGraph) (values : List (Option (Bor (List ℤ)))) : Type 0 where
  pub long : needed graph ≤ length values
  pub each : (rank : ℕ) → rank < needed graph
      → IsSomeAnd (slice_index_or values rank None) (λ found. value_of (any_graph graph) (needed_task graph rank) ≡ Some found.now)
