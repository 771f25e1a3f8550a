-- The content of slots: items at places, and the queues of ready places.
use Rattle.std.specs.{Coded.{Coded, code_by, coded×, coded_list, coded_ℕ}, Ordering.nat_cmp, Prelude.{◌≡◌, ℕ, ◌+◌, ◌<◌, ◌≤◌, ◌==◌, List}}
use Rattle.std.specs.Prelude.{[], ◌∷◌, ◌++◌, length, count_by, slice_set, slice_index_or, Option, None, Some, IsSome, if◌then◌else◌, refl}
use Rattle.tp_base.specs.declared.{limits.TheConstants.MAX_LIVE_TASKS, refusal.Refusal.{Refusal, TheVariants.{NoMemory, StoreFull}}}
use Rattle.std.specs.FinMap as map

-- the item at each taken place, and the queues of ready places, first to last
pub record Content (T : Type 0) : Type 0 where
  pub items : map.FinMap nat_cmp T
  pub ready : List (List ℕ)

abbrev pub content_code : {T : Type 0} → Coded T → Coded (Content T)
content_code {T} code =
    code_by
    (map.FinMap nat_cmp T × List (List ℕ))
    (coded× (map.code coded_ℕ code) (coded_list (coded_list coded_ℕ)))
    (λ c. (c.items, c.ready))
    (λ p. record { items = p.0; ready = p.1 })
    (λ _. refl)

-- how often the place is in the queues
abbrev pub times : ℕ → List (List ℕ) → ℕ
times place [] = 0
times place (queue ∷ rest) = count_by (λ x. x == place) queue + times place rest

module _ {X : Type 0} where
  -- the first element of the first queue that is not empty
  abbrev pub front : List (List X) → Option X
  front [] = None
  front ([] ∷ rest) = front rest
  front ((x ∷ later) ∷ rest) = Some x

  -- the queues without that element
  abbrev pub without_front : List (List X) → List (List X)
  without_front [] = []
  without_front ([] ∷ rest) = [] ∷ without_front rest
  without_front ((x ∷ later) ∷ rest) = later ∷ rest

  -- the queues with x at the end of the one of this class
  abbrev pub with_last : List (List X) → ℕ → X → List (List X)
  with_last ready class x = slice_set ready class (slice_index_or ready class [] ++ x ∷ [])

module _ {T : Type 0} where
  -- nothing is held, and the four queues are empty
  abbrev pub nothing_held : Content T
  nothing_held = record { items = map.empty; ready = [] ∷ [] ∷ [] ∷ [] ∷ [] }

  -- the item at the place
  abbrev pub item_at : Content T → ℕ → Option T
  item_at c place = map.get c.items place

  abbrev pub IsTaken : Content T → ℕ → Type 0
  IsTaken c place = IsSome (item_at c place)

  -- taken, and in none of the queues
  pub record IsIdle (c : Content T) (place : ℕ) : Type 0 where
    pub taken : IsTaken c place
    pub unlisted : times place c.ready ≡ 0

  -- how many items are held
  abbrev pub held_count : Content T → ℕ
  held_count c = map.len c.items

  -- why another item is refused: all places are taken, or else an allocation failed
  abbrev pub refusal_of_take : Content T → Refusal
  refusal_of_take c = if held_count c == MAX_LIVE_TASKS then StoreFull else NoMemory

  -- the same with this item at the place
  abbrev pub with_item : Content T → ℕ → T → Content T
  with_item c place item = record c { items = map.insert c.items place item }

  -- the same with nothing at the place
  abbrev pub without_item : Content T → ℕ → Content T
  without_item c place = record c { items = map.remove c.items place }

  -- the same with the place at the end of the queue of this class
  abbrev pub with_ready : Content T → ℕ → ℕ → Content T
  with_ready c class place = record c { ready = with_last c.ready class place }

  -- the same with the next ready place removed from its queue
  abbrev pub without_next : Content T → Content T
  without_next c = record c { ready = without_front c.ready }

  -- there are four queues; a place is in them at most once, and only if it is taken
  pub record IsSound (c : Content T) : Type 0 where
    pub four : length c.ready ≡ 4
    pub once : (place : ℕ) → times place c.ready ≤ 1
    pub taken : (place : ℕ) → 0 < times place c.ready → IsTaken c place
