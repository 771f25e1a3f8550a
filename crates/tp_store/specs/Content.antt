-- The content of a store: its tasks, the ready queues, and the results.
use Rattle.std.specs.{Option.option_map, Ordering.nat_cmp, Prelude.{ℕ, zero, suc, ◌-◌, ◌≤◌, ◌==◌, ◌||◌, Bool, true, false, not, List, []}}
use Rattle.std.specs.Prelude.{◌∷◌, ◌++◌, count_by, replicate, slice_index_or, slice_set, Option, None, Some, is_some, unwrap_or}
use Rattle.std.specs.Prelude.{if◌then◌else◌}
use Rattle.tp_base.specs.{Checks.{Check, first_refusal}, declared.{ids.TaskId.TaskId, limits.TheConstants.MAX_LIVE_TASKS}}
use Rattle.tp_base.specs.declared.refusal.Refusal.{Refusal, TheVariants.{TaskKnown, NoTask, WrongLife, SlotTaken, StoreFull}}
use Rattle.tp_slots.specs.Content.{without_front, with_last}
use Rattle.tp_store.specs.declared.life.{Counts.Counts, Delivered.{Delivered, TheVariants.{Inserted, Filled}}, Life.Life}
use Rattle.tp_store.specs.declared.life.Life.TheVariants.{Waiting, Ready, Running, Done}
use Rattle.std.specs.FinMap as map

-- the state of a task: its life, how many inputs it takes, its class, and the value of each input slot. A task that has begun has
-- no values any more.
pub record Task (V : Type 0) : Type 0 where
  pub life : Life
  pub arity : ℕ
  pub class : ℕ
  pub values : List (Option V)

-- all tasks by their numbers, including done ones; the ready ones in a queue for each class; each done task with its result, in
-- the order in which they were done
pub record Content (V : Type 0) : Type 0 where
  pub tasks : map.FinMap nat_cmp (Task V)
  pub ready : List (List TaskId)
  pub results : List (TaskId × V)

-- ---- lives
abbrev pub is_waiting : Life → Bool
is_waiting (Waiting k) = true
is_waiting _ = false

abbrev pub is_ready : Life → Bool
is_ready Ready = true
is_ready _ = false

abbrev pub is_running : Life → Bool
is_running Running = true
is_running _ = false

abbrev pub is_done : Life → Bool
is_done Done = true
is_done _ = false

abbrev pub is_unfinished : Life → Bool
is_unfinished life = not (is_done life)

abbrev pub has_begun : Life → Bool
has_begun life = is_running life || is_done life

-- the life of a task that lacks this many inputs
abbrev pub life_lacking : ℕ → Life
life_lacking zero = Ready
life_lacking (suc k) = Waiting (suc k)

-- the life after one more input
abbrev pub supplied : Life → Life
supplied (Waiting k) = life_lacking (k - 1)
supplied life = life

-- how far a task has come, if it is known
abbrev pub stage : Option Life → ℕ
stage None = 0
stage (Some (Waiting k)) = 1
stage (Some Ready) = 2
stage (Some Running) = 3
stage (Some Done) = 4

-- a task can be done if it was inserted and runs
abbrev pub done_checks : Option Life → List Check
done_checks life = (not (is_some life), NoTask) ∷ (not (unwrap_or (option_map is_running life) false), WrongLife) ∷ []

-- why a task of this life cannot be done
abbrev pub refusal_of_done : Option Life → Option Refusal
refusal_of_done life = first_refusal (done_checks life)

-- how many tasks a delivery inserts
abbrev pub inserted_by : Delivered → ℕ
inserted_by (Inserted k) = 1
inserted_by Filled = 0

module _ {V : Type 0} where
  -- ---- one task
  -- a task that has none of its inputs
  abbrev pub fresh : ℕ → ℕ → Task V
  fresh arity class = record { life = life_lacking arity; arity = arity; class = class; values = replicate arity None }

  -- the task with one more input
  abbrev pub with_value : Task V → ℕ → V → Task V
  with_value x slot value = record x { life = supplied x.life; values = slice_set x.values slot (Some value) }

  abbrev pub begun : Task V → Task V
  begun x = record x { life = Running; values = [] }

  abbrev pub done : Task V → Task V
  done x = record x { life = Done }

  -- ---- what the content says
  abbrev pub task_of : Content V → TaskId → Option (Task V)
  task_of c t = map.get c.tasks t.0

  abbrev pub life_of : Content V → TaskId → Option Life
  life_of c t = option_map (λ x. x.life) (task_of c t)

  -- the input slots of a task
  abbrev pub values_of : Content V → TaskId → List (Option V)
  values_of c t = unwrap_or (option_map (λ x. x.values) (task_of c t)) []

  -- the life of each task is the same as before or a later one
  abbrev pub NoneGoesBack : Content V → Content V → Type 0
  NoneGoesBack old new = (t : TaskId) → stage (life_of old t) ≤ stage (life_of new t)

  -- how many tasks have such a life
  abbrev pub count_lives : (Life → Bool) → Content V → ℕ
  count_lives test c = count_by (λ e. test e.1.life) (map.entries c.tasks)

  -- how many tasks are not done
  abbrev pub unfinished : Content V → ℕ
  unfinished = count_lives is_unfinished

  abbrev pub counts_of : Content V → Counts
  counts_of c = record { waiting = count_lives is_waiting c; ready = count_lives is_ready c; running = count_lives is_running c }

  -- ---- why a call is refused, apart from failures of allocations
  -- an unknown task is inserted if the store is not full
  abbrev pub new_checks : Content V → List Check
  new_checks c = (unfinished c == MAX_LIVE_TASKS, StoreFull) ∷ []

  -- a known task takes a value before it begins, and each slot takes one
  abbrev pub value_checks : Task V → ℕ → ℕ → List Check
  value_checks x arity slot =
      (has_begun x.life || not (x.arity == arity), TaskKnown) ∷ (is_some (slice_index_or x.values slot None), SlotTaken) ∷ []

  -- a task is inserted once
  abbrev pub insert_checks : Content V → TaskId → List Check
  insert_checks c t = (is_some (task_of c t), TaskKnown) ∷ new_checks c

  abbrev pub refusal_of_new : Content V → Option Refusal
  refusal_of_new c = first_refusal (new_checks c)

  abbrev pub refusal_of_value : Task V → ℕ → ℕ → Option Refusal
  refusal_of_value x arity slot = first_refusal (value_checks x arity slot)

  abbrev pub refusal_of_insert : Content V → TaskId → Option Refusal
  refusal_of_insert c t = first_refusal (insert_checks c t)

  abbrev pub refusal_of_deliver : Content V → TaskId → ℕ → ℕ → Option Refusal
  refusal_of_deliver c t arity slot = unwrap_or (option_map (λ x. refusal_of_value x arity slot) (task_of c t)) (refusal_of_new c)

  -- ---- how the content changes
  abbrev pub nothing_stored : Content V
  nothing_stored = record { tasks = map.empty; ready = [] ∷ [] ∷ [] ∷ [] ∷ []; results = [] }

  -- the task has this state from now on; if it is ready, it goes to the end of the queue of its class
  abbrev pub with_task : Content V → TaskId → Task V → Content V
  with_task c t x =
      record c { tasks = map.insert c.tasks t.0 x; ready = (if is_ready x.life then with_last c.ready x.class t else c.ready) }

  -- the tasks with that one changed
  abbrev pub changed_tasks : Content V → TaskId → (Task V → Task V) → map.FinMap nat_cmp (Task V)
  changed_tasks c t change = unwrap_or (option_map (λ x. map.insert c.tasks t.0 (change x)) (task_of c t)) c.tasks

  -- an input-free task is inserted
  abbrev pub with_inserted : Content V → TaskId → ℕ → Content V
  with_inserted c t class = with_task c t (fresh 0 class)

  -- a value is put into its slot; an unknown task is inserted by it
  abbrev pub with_delivered : Content V → TaskId → ℕ → ℕ → ℕ → V → Content V
  with_delivered c t arity class slot value = with_task c t (with_value (unwrap_or (task_of c t) (fresh arity class)) slot value)

  -- the next ready task begins
  abbrev pub with_begun : Content V → TaskId → Content V
  with_begun c t = record c { tasks = changed_tasks c t begun; ready = without_front c.ready }

  -- a task is done with this result
  abbrev pub with_done : Content V → TaskId → V → Content V
  with_done c t value = record c { tasks = changed_tasks c t done; results = c.results ++ (t, value) ∷ [] }

  -- the effect of a delivery
  abbrev pub delivered_to : Content V → TaskId → ℕ → Delivered
  delivered_to c t arity = if is_some (task_of c t) then Filled else Inserted (arity - 1)
