-- The blocks of slots, and the table of the addresses of slots.
use Rattle.std.specs.Prelude.{◌≡◌, ℕ, ◌<◌, ◌≤◌, List, [], ◌∷◌, ◌++◌, map, length, Option, None, is_some, true}
use Rattle.std.specs.declared.alloc.Global.{Global}
use Rattle.tp_slots.specs.{Cells.cell_at, declared.{blocks.{Block.Block, TheConstants.BLOCK}, cells.At.At, chains.Slot.Slot}}
use denote.RawPtr.{Ptr}

module _ {T : Type 0} where
  -- the right to free the block covers its number of cells, from its address on, and this allocator
  pub record IsBlock (alloc : Global) (block : Block T) : Type 0 where
    pub at : block.deed.at ≡ block.at.ptr
    pub len : block.deed.len ≡ BLOCK
    pub row : length block.deed.row ≡ BLOCK
    pub alloc_is : block.deed.alloc ≡ alloc

  -- the addresses of the cells of the blocks, in order
  abbrev pub rows_of : List (Block T) → List Ptr
  rows_of [] = []
  rows_of (block ∷ blocks) = block.deed.row ++ rows_of blocks

  abbrev pub pointers_in : List (At (Slot T)) → List Ptr
  pointers_in = map (λ a. a.ptr)

  abbrev pub pointers_of : List (Ptr × Option (Slot T)) → List Ptr
  pointers_of = map (λ c. c.0)

  -- the table has the address of each cell; the first `used` cells hold a slot, and no later one does
  pub record HoldsFirst (table : List (At (Slot T))) (cells : List (Ptr × Option (Slot T))) (used : ℕ) : Type 0 where
    pub table_is : pointers_in table ≡ pointers_of cells
    pub filled : (place : ℕ) → place < used → is_some (cell_at cells place).1 ≡ true
    pub fresh : (place : ℕ) → used ≤ place → (cell_at cells place).1 ≡ None
