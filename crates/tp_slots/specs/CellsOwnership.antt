-- The memory that raw cells own and lend, for values of the row R.
use Rattle.std.specs.{Mem.type_size, Prelude.{ℕ, zero, suc, ◌*◌, ◌^◌, List, [], ◌∷◌, Option, Some, None}}
use Rattle.tp_slots.specs.Cells.{empty_at}
use base.Fml.{Lft, Fml, ftrue, fsep, flt, feq}
use base.Fraction.{full_share}
use denote.Memory.{lone}
use denote.RattleType.{RattleType}
use denote.RawPtr.{Ptr, lies_at, room_for, ◌+ₚ◌}
use denote.Sharing.{nothing, beside}
use denote.Struct.Lending.{lent_at}
use mir.Raw.{raw}
use mir.Syntax.{Ty, ty_array}

module _ (R : RattleType) where
  -- one cell: its value, or the memory for one
  abbrev pub cell_owns : Ptr → Option R.Denot → Fml
  cell_owns p (Some x) = lies_at R full_share p x
  cell_owns p None = room_for (raw (lone R.mir)) p

  abbrev pub cells_own : List (Ptr × Option R.Denot) → Fml
  cells_own [] = ftrue
  cells_own (c ∷ cs) = fsep (cell_owns c.0 c.1) (cells_own cs)

  abbrev pub cell_lent : Ptr → Option R.Denot → Lft → Fml
  cell_lent p (Some x) = lent_at R p x
  cell_lent p None = nothing

  abbrev pub cells_lent : List (Ptr × Option R.Denot) → Lft → Fml
  cells_lent [] = nothing
  cells_lent (c ∷ cs) = beside (cell_lent c.0 c.1) (cells_lent cs)

  -- empty cells next to each other, from p on
  abbrev pub row_from : Ptr → ℕ → List (Ptr × Option R.Denot)
  row_from p zero = []
  row_from p (suc n) = (p, None) ∷ row_from (p +ₚ type_size R) n

  -- the allocator's token for a block of n cells, which take fewer than 2 ^ 63 bytes, and their addresses
  abbrev pub deed_owns : (Ty → Ptr → Fml) → Ptr → ℕ → List Ptr → Fml
  deed_owns token p n row =
      fsep (token (raw (ty_array (lone R.mir) n)) p)
      (fsep (flt (n * type_size R) (2 ^ 63)) (feq (List (Ptr × Option R.Denot)) (row_from p n) (empty_at row)))
