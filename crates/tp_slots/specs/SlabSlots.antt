-- How `SlabSlots` keeps its content.
use Rattle.slab.specs.Slab.{Slab, entries, slab_len, HasRoomFor}
use Rattle.std.specs.{Coded.{Coded, code_by, coded×, coded_ℕ}, List.All, Prelude.{ℕ, ◌+◌, ◌≤◌, List, map as each, refl}}
use Rattle.std.specs.{VecDeque.deque_capacity, declared.collections.VecDeque.VecDeque}
use Rattle.tp_base.specs.declared.limits.TheConstants.{MAX_LIVE_TASKS}
use Rattle.tp_slots.specs.Content.{Content, content_code, IsSound}
use Rattle.std.specs.FinMap as map

-- the content, and how many more items fit before memory has to grow
pub record Roomy (T : Type 0) : Type 0 where
  pub content : Content T
  pub room : ℕ

abbrev pub roomy_code : {T : Type 0} → Coded T → Coded (Roomy T)
roomy_code {T} code =
    code_by (Content T
    × ℕ) (coded× (content_code code) coded_ℕ) (λ r. (r.content, r.room)) (λ p. record { content = p.0; room = p.1 }) (λ _. refl)

module _ {A : Type 0} where
  -- the places in each queue
  abbrev pub places_of : List (VecDeque ℕ A) → List (List ℕ)
  places_of = each (λ q. q.items)

  -- each queue has room for this many places
  abbrev pub EachHolds : ℕ → List (VecDeque ℕ A) → Type 0
  EachHolds n = All (λ q. n ≤ deque_capacity q)

module _ {T A : Type 0} where
  abbrev pub content_of : Slab T → List (VecDeque ℕ A) → Content T
  content_of items ready = record { items = map.from_entries (entries items); ready = places_of ready }

  -- the content is sound, this many more items fit, and each queue has room for all places, including those
  pub record IsKept (items : Slab T) (ready : List (VecDeque ℕ A)) (room : ℕ) : Type 0 where
    pub sound : IsSound (content_of items ready)
    pub spare : HasRoomFor items room
    pub lists : EachHolds (slab_len items + room) ready
    pub within : slab_len items + room ≤ MAX_LIVE_TASKS
