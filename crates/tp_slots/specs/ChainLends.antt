-- The slots after a `&mut` to an item has ended.
use Rattle.std.specs.{Borrow.{Fml, RattleType, MutBor, Lends}, Prelude.{ℕ, List, slice_set, Option, Some, None}}
use Rattle.tp_slots.specs.{Cells.cell_at, CellsLends.with_cells, contracts.cells.Cells.the_row as cells_row}
use Rattle.tp_slots.specs.{contracts.chains.Slot.the_row as slot_row, declared.{cells.Cells.Cells, chains.Slot.Slot}}
use denote.RawPtr.{Ptr}

module _ {T : Type 0} where
  abbrev pub slot_with : Slot T → T → Slot T
  slot_with s w = record s { item = Some w }

  abbrev pub holding : T → Option (Slot T) → Option (Slot T)
  holding w None = None
  holding w (Some s) = Some (slot_with s w)

  -- the cells with this item in the slot of this number
  abbrev pub with_item_at : List (Ptr × Option (Slot T)) → ℕ → T → List (Ptr × Option (Slot T))
  with_item_at cells i w = slice_set cells i ((cell_at cells i).0, holding w (cell_at cells i).1)

  abbrev pub vacated : Option (Slot T) → Option (Slot T)
  vacated None = None
  vacated (Some s) = Some (record s { item = None })

  -- the cells with no item in the slot of this number
  abbrev pub without_item_at : List (Ptr × Option (Slot T)) → ℕ → List (Ptr × Option (Slot T))
  without_item_at cells i = slice_set cells i ((cell_at cells i).0, vacated (cell_at cells i).1)

abbrev pub lends_slot_item : (R : RattleType) → MutBor (Slot R.Denot) → MutBor R.Denot → Fml
lends_slot_item R s r = Lends (slot_row R) R s r (slot_with s.now)

abbrev pub lends_item : (R : RattleType) → MutBor (Cells (Slot R.Denot)) → ℕ → MutBor R.Denot → Fml
lends_item R c i r = Lends (cells_row (slot_row R)) R c r (λ w. with_cells c.now (with_item_at c.now.cells i w))
