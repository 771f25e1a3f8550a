-- How `RawSlots` keeps its content.
use Rattle.slab.specs.Slab.{entries_from}
use Rattle.std.specs.{List.All, Ordering.nat_cmp, Prelude.{◌≡◌, ℕ, zero, suc, ◌+◌, ◌<◌, ◌≤◌, ◌==◌, List, [], ◌∷◌, map as each, length}}
use Rattle.std.specs.{Prelude.{count_by, Option, None, Some}, declared.alloc.Global.Global}
use Rattle.tp_slots.specs.{Blocks.{IsBlock, rows_of, pointers_of, HoldsFirst}, Cells.cell_at, Chains.{item_in, next_at, IsChain}}
use Rattle.tp_slots.specs.{Content.{Content, times, IsSound}, Lists.AreChains, declared.blocks.{Block.Block, TheConstants.BLOCKS}}
use Rattle.tp_slots.specs.declared.{cells.At.At, chains.{Chain.Chain, Link.Link, Slot.Slot}}
use denote.RawPtr.{Ptr}
use Rattle.std.specs.FinMap as map

module _ {T : Type 0} where
  -- the places from this link on, up to this count
  abbrev pub places_from : List (Ptr × Option (Slot T)) → Option (Link T) → ℕ → List ℕ
  places_from cells link zero = []
  places_from cells None (suc n) = []
  places_from cells (Some link) (suc n) = link.place ∷ places_from cells (next_at cells link.place) n

  -- the places of a list
  abbrev pub places_of : List (Ptr × Option (Slot T)) → Chain T → List ℕ
  places_of cells chain = places_from cells chain.front (length cells)

  abbrev pub items_in : List (Ptr × Option (Slot T)) → List (Option T)
  items_in = each (λ c. item_in c.1)

  -- the items of these cells, and these queues of ready places
  abbrev pub content_of : List (Ptr × Option (Slot T)) → List (List ℕ) → Content T
  content_of cells lists = record { items = map.from_entries (entries_from 0 (items_in cells)); ready = lists }

  abbrev pub raw_content : List (Ptr × Option (Slot T)) → List (Chain T) → Content T
  raw_content cells ready = content_of cells (each (places_of cells) ready)

  -- the free places and the ready ones are those of the linked lists; no place is in two lists; a free one has no item, and a
  -- ready one has
  pub record IsLinked (cells : List (Ptr × Option (Slot T))) (free : Chain T) (ready : List (Chain T)) (vacant : List ℕ)
      (lists : List (List ℕ)) : Type 0 where
    pub free_list : IsChain cells free vacant
    pub ready_lists : AreChains cells ready lists
    pub apart : (place : ℕ) → count_by (λ x. x == place) vacant + times place lists ≤ 1
    pub empty : (place : ℕ) → 0 < count_by (λ x. x == place) vacant → item_in (cell_at cells place).1 ≡ None
    pub sound : IsSound (content_of cells lists)

  -- the room is the free slots and the cells that were never used, which are all that hold no item
  pub record IsCounted (cells : List (Ptr × Option (Slot T))) (used room free : ℕ) : Type 0 where
    pub within : used ≤ length cells
    pub spare : room + used ≡ free + length cells
    pub held : map.len (map.from_entries {R = nat_cmp} (entries_from 0 (items_in cells))) + room ≡ length cells

  -- there are at most 256 blocks, each with the right to free it, and the cells are those of the blocks
  pub record IsHoused (alloc : Global) (blocks : List (Block T)) (pointers : List Ptr) : Type 0 where
    pub each_block : All (IsBlock alloc) blocks
    pub most : length blocks ≤ BLOCKS
    pub cells : rows_of blocks ≡ pointers

  -- the slots are linked, counted, in the table and in their blocks
  pub record IsRaw (alloc : Global) (blocks : List (Block T)) (table : List (At (Slot T))) (cells : List (Ptr × Option (Slot T)))
      (used room : ℕ) (free : Chain T) (ready : List (Chain T)) : Type 0 where
    pub linked : IsLinked cells free ready (places_of cells free) (each (places_of cells) ready)
    pub counted : IsCounted cells used room (length (places_of cells free))
    pub tabled : HoldsFirst table cells used
    pub housed : IsHoused alloc blocks (pointers_of cells)
