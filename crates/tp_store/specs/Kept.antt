-- The invariant of a store: how its slots, entries and results represent its content.
use Rattle.std.specs.{Option.{option_map, IsSomeAnd}, Ordering.nat_cmp, Prelude.{◌≡◌, ℕ, zero, suc, ◌+◌, ◌-◌, ◌^◌, ◌≤◌, ◌==◌, Bool, []}}
use Rattle.std.specs.{Prelude.{map as each, Option, None, Some, unwrap_or, vec_len, vec_capacity, if◌then◌else◌}, declared.vec.Vec.Vec}
use Rattle.tp_base.specs.{Table.lookup, declared.{ids.TaskId.TaskId, limits.TheConstants.MAX_LIVE_TASKS}}
use Rattle.tp_store.specs.{Content.{Task, Content, with_value, is_waiting, is_ready, is_running, unfinished, counts_of}, Entries.Entries}
use Rattle.tp_store.specs.{Entries.entry_at, Items.Item, Sound.IsSound, declared.index.Entry.{Entry, TheVariants.{Live, Done}}}
use Rattle.tp_store.specs.declared.life.{Counts.Counts, Life.{Life, TheVariants.Done as is_over}}
use Rattle.std.specs.FinMap as map
use Rattle.tp_slots.specs.Content as slots

-- how much one task adds to the count of these lives, if there is one
abbrev pub one : (Life → Bool) → Option Life → ℕ
one test None = 0
one test (Some life) = if test life then 1 else 0

-- the counts after a task goes from one life to another; a new task had none
abbrev pub moved_counts : Counts → Option Life → Life → Counts
moved_counts counts was life = record {
  waiting = counts.waiting + one is_waiting (Some life) - one is_waiting was;
  ready = counts.ready + one is_ready (Some life) - one is_ready was;
  running = counts.running + one is_running (Some life) - one is_running was;
}

-- the task is among those that are counted
pub record IsCounted (was : Option Life) (counts : Counts) : Type 0 where
  pub waiting : one is_waiting was ≤ counts.waiting
  pub ready : one is_ready was ≤ counts.ready
  pub running : one is_running was ≤ counts.running
  pub few : counts.waiting + counts.ready + counts.running ≤ MAX_LIVE_TASKS

-- the parts of a store: the items at their places, the entry of each number, the results, and how many tasks of each life there
-- are
pub record Parts (V A : Type 0) : Type 0 where
  pub places : slots.Content (Item V)
  pub index : Entries
  pub results : Vec (TaskId × V) A
  pub counts : Counts

abbrev pub parts_of : {V A : Type 0} → slots.Content (Item V) → Entries → Vec (TaskId × V) A → Counts → Parts V A
parts_of places index results counts = record { places = places; index = index; results = results; counts = counts }

module _ {V : Type 0} where
  -- the state of the task that an entry refers to
  abbrev pub task_under : slots.Content (Item V) → Option Entry → Option (Task V)
  task_under c None = None
  task_under c (Some (Live place)) = option_map (λ i. i.task) (slots.item_at c place)
  task_under c (Some (Done arity class)) = Some (record { life = is_over; arity = arity; class = class; values = [] })

  -- the tasks with the one of another number, if it has an entry
  abbrev pub with_found : map.FinMap nat_cmp (Task V) → ℕ → Option (Task V) → map.FinMap nat_cmp (Task V)
  with_found tasks k None = map.remove tasks k
  with_found tasks k (Some x) = map.insert tasks k x

  -- the tasks under the numbers below n
  unfoldable pub tasks_below : slots.Content (Item V) → Entries → ℕ → map.FinMap nat_cmp (Task V)
  tasks_below c index zero = map.empty
  tasks_below c index (suc n) = with_found (tasks_below c index n) n (task_under c (unwrap_or (lookup index n) None))

  -- the tasks under all numbers of 32 bits
  abbrev pub tasks_of : slots.Content (Item V) → Entries → map.FinMap nat_cmp (Task V)
  tasks_of c index = tasks_below c index (2 ^ 32)

  -- the number of the task at a place
  abbrev pub number_of : Option (Item V) → TaskId
  number_of item = unwrap_or (option_map (λ i. i.number) item) (record { 0 = 0 })

  abbrev pub number_at : slots.Content (Item V) → ℕ → TaskId
  number_at c place = number_of (slots.item_at c place)

  abbrev pub content_of : {A : Type 0} → Parts V A → Content V
  content_of s =
      record { tasks = tasks_of s.places s.index; ready = each (each (number_at s.places)) s.places.ready; results = s.results.items }

  -- the same with the place of a ready task at the end of its queue
  abbrev pub with_listed : slots.Content (Item V) → ℕ → Task V → slots.Content (Item V)
  with_listed c place x = if is_ready x.life then slots.with_ready c x.class place else c

  -- the item at a place has one more value, and the place is in the queue of its class if that makes its task ready
  abbrev pub with_supplied : slots.Content (Item V) → ℕ → Item V → ℕ → V → slots.Content (Item V)
  with_supplied c place i slot value =
      with_listed (slots.with_item c place (record i { task = with_value i.task slot value })) place (with_value i.task slot value)

  module _ {A : Type 0} where
    -- each task that is not done has its own place, and each item its entry; there is room for the result of each such task
    pub record IsKept (s : Parts V A) : Type 0 where
      pub lists : slots.IsSound s.places
      pub live : (t place : ℕ) → entry_at s.index t ≡ Some (Live place) → IsSomeAnd (slots.item_at s.places place) (λ i. i.number.0 ≡ t)
      pub owner : (place : ℕ) (i : Item V) → slots.item_at s.places place ≡ Some i → entry_at s.index i.number.0 ≡ Some (Live place)
      pub sound : IsSound (content_of s)
      pub held : slots.held_count s.places ≡ unfinished (content_of s)
      pub within : slots.held_count s.places ≤ MAX_LIVE_TASKS
      pub counted : s.counts ≡ counts_of (content_of s)
      pub space : vec_len s.results + slots.held_count s.places ≤ vec_capacity s.results

    -- the same with more room
    pub record IsGrown (c d : slots.Content (Item V)) (index new : Entries) (results after : Vec (TaskId × V) A) : Type 0 where
      pub places : d ≡ c
      pub entries : (t : ℕ) → entry_at new t ≡ entry_at index t
      pub items : after.items ≡ results.items
      pub long : vec_len after ≡ vec_len results
      pub capacity : vec_capacity results ≤ vec_capacity after

    -- the store keeps this content, and this many of its tasks are not done
    pub record Leaves (new : Parts V A) (c : Content V) (live : ℕ) : Type 0 where
      pub content : content_of new ≡ c
      pub count : unfinished (content_of new) ≡ live
      pub kept : IsKept new
