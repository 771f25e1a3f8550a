-- The table that a sample pool computes, as numbers and as text.
use Rattle.pool_samples.specs.{Products.entry, Trees.sum_of_leaves, Waves.cell, declared.any.AnyGraph.AnyGraph}
use Rattle.std.specs.{Fmt.signed_decimal, Prelude.{◌≢◌, ◌<◌, ◌+◌, ◌-◌, ◌*◌, ◌/◌, ◌++◌, ℕ, zero, suc, ℤ, pos, List, [], ◌∷◌, if◌then◌else◌}}
use Rattle.std.specs.Prelude.{nat_eq, All}
use Rattle.tp_graph.specs.Serial.{Results}
use Rattle.pool_samples.specs.declared.any.AnyGraph.TheVariants as pool

-- a table of numbers, by row and column
pub record Table : Type 0 where
  pub rows : ℕ
  pub columns : ℕ
  pub at : ℕ → ℕ → ℤ

-- The plain result: the product of the two matrices, each entry one sum over all z; the recurrence over a table of
-- costs; the sum of the leaves.
abbrev pub table_of : AnyGraph → Table
table_of (pool.Product p) = record { rows = p.tiles * p.side; columns = p.tiles * p.side; at = λ x y. entry (p.tiles * p.side) p.seed x y }
table_of (pool.Wavefront w) = record { rows = w.rows; columns = w.columns; at = λ i j. pos (cell w.seed i j) }
table_of (pool.Reduce r) = record { rows = 1; columns = 1; at = λ i j. pos (sum_of_leaves r.seed r.leaves) }

-- The task whose value has a cell of the table: the last task that adds to the cell's tile; the cell's own task; the
-- root.
abbrev pub task_at : AnyGraph → ℕ → ℕ → ℕ
task_at (pool.Product p) x y = ((x / p.side) * p.tiles + y / p.side) * p.tiles + (p.tiles - 1)
task_at (pool.Wavefront w) i j = i * w.columns + j
task_at (pool.Reduce r) i j = 2 * r.leaves - 2

-- the texts of 0, 1 and so on, up to this count, concatenated
abbrev pub texts : ℕ → (ℕ → List ℕ) → List ℕ
texts zero text = []
texts (suc count) text = texts count text ++ text count

-- a number and the character after it: a line feed after the last of a row, a space after any other
abbrev pub cell_text : ℕ → ℕ → ℤ → List ℕ
cell_text columns j number = signed_decimal number ++ (if nat_eq (j + 1) columns then 10 else 32) ∷ []

-- the rows of a table, each a line
abbrev pub table_text : Table → List ℕ
table_text table = texts table.rows (λ i. texts table.columns (λ j. cell_text table.columns j (table.at i j)))

-- no result is of the task
abbrev pub HasNone : Results → ℕ → Type 0
HasNone results task = All (λ r. r.0.0 ≢ task) results

-- a task that the table needs has no result
pub record LacksCell (graph : AnyGraph) (results : Results) : Type 0 where
  pub row : ℕ
  pub column : ℕ
  pub row_within : row < (table_of graph).rows
  pub column_within : column < (table_of graph).columns
  pub none : HasNone results (task_at graph row column)
