-- Linked lists of slots.
use Rattle.std.specs.Prelude.{◌≡◌, ℕ, ◌≤◌, ◌==◌, List, [], ◌∷◌, ◌++◌, length, count_by, slice_set, Option, None, Some, is_some}
use Rattle.tp_slots.specs.{Cells.{cell_at, IsFull}, declared.chains.{Chain.Chain, Link.Link, Slot.Slot}}
use denote.RawPtr.{Ptr}

module _ {T : Type 0} where
  -- the link has the address of its slot
  abbrev pub IsLink : List (Ptr × Option (Slot T)) → Link T → Type 0
  IsLink cells link = IsFull cells link.place link.ptr

  abbrev pub next_in : Option (Slot T) → Option (Link T)
  next_in None = None
  next_in (Some slot) = slot.next

  abbrev pub item_in : Option (Slot T) → Option T
  item_in None = None
  item_in (Some slot) = slot.item

  abbrev pub next_at : List (Ptr × Option (Slot T)) → ℕ → Option (Link T)
  next_at cells i = next_in (cell_at cells i).1

  -- the slot with another next slot
  abbrev pub led_to : Option (Link T) → Option (Slot T) → Option (Slot T)
  led_to next None = None
  led_to next (Some slot) = Some (record slot { next = next })

  abbrev pub with_next : List (Ptr × Option (Slot T)) → ℕ → Option (Link T) → List (Ptr × Option (Slot T))
  with_next cells i next = slice_set cells i ((cell_at cells i).0, led_to next (cell_at cells i).1)

  -- the slots from this link on are at these places, in order
  abbrev pub IsPath : List (Ptr × Option (Slot T)) → Option (Link T) → List ℕ → Type 0
  IsPath cells link [] = link ≡ None
  IsPath cells None (place ∷ places) = ⊥
  IsPath cells (Some link) (place ∷ places) = (link.place ≡ place) × IsLink cells link × IsPath cells (next_at cells place) places

  -- the back of a list of these places
  abbrev pub IsBack : List (Ptr × Option (Slot T)) → Option (Link T) → List ℕ → Type 0
  IsBack cells None places = places ≡ []
  IsBack cells (Some link) places = IsLink cells link × (before : List ℕ) × (places ≡ before ++ link.place ∷ [])

  -- the list has these places, each once
  pub record IsChain (cells : List (Ptr × Option (Slot T))) (chain : Chain T) (places : List ℕ) : Type 0 where
    pub path : IsPath cells chain.front places
    pub back : IsBack cells chain.back places
    pub once : (place : ℕ) → count_by (λ x. x == place) places ≤ 1

  -- the slots at other places are unchanged, and every slot keeps its pointer and its item, if it has one
  pub record KeepsOthers (old new : List (Ptr × Option (Slot T))) (places : List ℕ) : Type 0 where
    pub long : length new ≡ length old
    pub others : (i : ℕ) → count_by (λ x. x == i) places ≡ 0 → cell_at new i ≡ cell_at old i
    pub ptrs : (i : ℕ) → (cell_at new i).0 ≡ (cell_at old i).0
    pub items : (i : ℕ) → item_in (cell_at new i).1 ≡ item_in (cell_at old i).1
    pub full : (i : ℕ) → is_some (cell_at new i).1 ≡ is_some (cell_at old i).1
