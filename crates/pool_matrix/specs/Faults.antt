-- Why a run of a product has no result, by cases of the returned fault.
use Rattle.pool_blocks.specs.{Faults.IsLentFault, declared.fault.LentFault.LentFault}
use Rattle.pool_matrix.specs.Matrices.{AreNoMatrices, matrix_graph}
use Rattle.std.specs.Prelude.{ℕ, ℤ, ◌/◌, List, length}

-- the lists are no such matrices, or their pool has no product
abbrev pub IsProductFault : ℕ → ℕ → List ℤ → List ℤ → ℕ → ℕ → LentFault → Type 0
IsProductFault n workers left right order side =
    IsLentFault n workers (AreNoMatrices order side (length left) (length right))
    (matrix_graph left right (order / side) side)
