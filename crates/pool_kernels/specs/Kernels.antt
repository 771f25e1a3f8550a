-- What a grid computes whose tasks have a kernel, row by row: no tasks, no slots.
use Rattle.pool_blocks.specs.Joined.{in_a_row}
use Rattle.pool_kernels.specs.Grids.{IsNarrow, Relation, grid_graph}
use Rattle.std.specs.Prelude.{◌≡◌, ◌<◌, ◌+◌, ◌*◌, ◌/◌, ◌%◌, ℕ, zero, suc, ℤ, Bool, List, [], ◌∷◌, ◌++◌, Option, Some, if◌then◌else◌}
use Rattle.tp_graph.specs.{Graphs.TaskGraph, Values.{fitting, gather, then_some, value_of}}

-- what a task computes from its row, its column and the values that feed it, in rising order of their columns; none if
-- it fails
abbrev pub Rule : Type 0
Rule = ℕ → ℕ → List (List ℤ) → Option (List ℤ)

-- the value: none as well if a number does not fit 64 bits
abbrev pub computed : Rule → ℕ → ℕ → List (List ℤ) → Option (List ℤ)
computed rule t i inputs = then_some (rule t i inputs) fitting

-- v of each number below n that has f, in rising order; none if one of these is none
abbrev pub gather_where : {A : Type 0} → (ℕ → Bool) → (ℕ → Option A) → ℕ → Option (List A)
gather_where f v zero = Some []
gather_where f v (suc n) =
    if f n then then_some (gather_where f v n) (λ xs. then_some (v n) (λ x. Some (xs ++ x ∷ []))) else gather_where f v n

-- the value of column i of row t, in rows of w columns: what it computes from the values of the columns of the row
-- before that feed it
abbrev pub cell : Relation → Rule → ℕ → ℕ → ℕ → Option (List ℤ)
cell r rule w zero i = computed rule 0 i []
cell r rule w (suc t) i = then_some (gather_where (λ j. r (suc t) j i) (cell r rule w t) w) (computed rule (suc t) i)

-- the numbers of row t, column after column; none if a column has no value
abbrev pub row_at : Relation → Rule → ℕ → ℕ → Option (List ℤ)
row_at r rule w t = then_some (gather w (cell r rule w t)) (λ values. Some (in_a_row values))

-- the rule of task t of a grid: that of its row and its column
abbrev pub rule_in : Rule → ℕ → ℕ → List (List ℤ) → Option (List ℤ)
rule_in rule w t inputs = rule (t / w) (t % w) inputs

-- the grid as a graph
abbrev pub kernel_graph : Relation → Rule → ℕ → ℕ → TaskGraph
kernel_graph r rule w steps = grid_graph r w steps (rule_in rule w)

-- The value of each task of a grid is that of its cell, for any relation and rule.
abbrev pub CellLaw : Type 0
CellLaw = (r : Relation) (rule : Rule) (w steps t i : ℕ) → IsNarrow r w steps → t < steps → i < w
    → value_of (kernel_graph r rule w steps) (t * w + i) ≡ cell r rule w t i
