-- Memory for the shares of a reopening.
use Rattle.std.specs.Prelude.{ℕ, ◌≡◌, ◌≤◌, [], vec_capacity}
use Rattle.tp_board.specs.declared.reopened_ledgers.Fresh.{Fresh}

abbrev pub HasRoom : {K : Type 0} → ℕ → Fresh K → Type 0
HasRoom nodes f = (f.pendings.items ≡ []) × (nodes ≤ vec_capacity f.pendings) × (f.shares.items ≡ []) × (nodes ≤ vec_capacity f.shares)
