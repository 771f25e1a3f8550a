-- The calls of a pool: the checks of each, in their order, and what each does.
use Rattle.std.specs.{List.list_all, Prelude.{ℕ, ◌+◌, ◌-◌, ◌≡◌, ◌<◌, ◌≤◌, ◌&&◌, ◌||◌, ◌==◌, List, [], ◌∷◌, ◌++◌, Bool, false, not, length}}
use Rattle.std.specs.Prelude.{map, slice_get, slice_set, IsTrue, IsFalse, Option, Some, None, nat_le, nat_lt, if◌then◌else◌}
use Rattle.tp_base.specs.{Checks.Check, declared.limits.TheConstants.MAX_STEPS}
use Rattle.tp_dag.specs.State.{PoolState, Entry, IsReady, NoneReadyBelow, is_fresh, is_running, is_traced, is_ready_now, count_where}
use Rattle.tp_dag.specs.{State.{is_unfinished, steps_of_trace}, declared.{entry.{Event.Event, Stage.Stage}, limits.TheConstants.MAX_TASKS}}
use Rattle.tp_dag.specs.declared.limits.TheConstants.{MAX_INPUTS, MAX_OUTSIDE}
use Rattle.tp_base.specs.declared.refusal.Refusal.TheVariants as refusal
use Rattle.tp_dag.specs.declared.entry.Stage.TheVariants as stage
use Rattle.tp_dag.specs.declared.entry.Event.TheVariants as event

abbrev pub is_fresh_at : Option Entry → Bool
is_fresh_at (Some x) = is_fresh x.stage
is_fresh_at None = false

abbrev pub is_running_at : Option Entry → Bool
is_running_at (Some x) = is_running x.stage
is_running_at None = false

abbrev pub outside_at : Option Entry → ℕ
outside_at (Some x) = x.outside
outside_at None = 0

-- ---- the checks of each call
-- a trace of this number of tasks would be too long
abbrev pub lacks_steps : PoolState → ℕ → Bool
lacks_steps a tasks = is_traced a && nat_lt MAX_STEPS (steps_of_trace tasks)

abbrev pub task_checks : PoolState → ℕ → List Check
task_checks a class =
    (nat_lt 3 class, refusal.BadSpec)
    ∷ (nat_le MAX_TASKS (length a.tasks), refusal.HistoryFull MAX_TASKS)
    ∷ (a.started && lacks_steps a (length a.tasks + 1), refusal.HistoryFull MAX_STEPS) ∷ []

-- `input` is about the newest task. It was not dispatched, and in a pool that was started it may not be ready: it could be dispatched at
-- any time.
abbrev pub input_checks : PoolState → ℕ → List Check
input_checks a source =
    (nat_le (length a.tasks) (source + 1), refusal.NoTask)
    ∷ (not (is_fresh_at (slice_get a.tasks (length a.tasks - 1))), refusal.WrongLife)
    ∷ (a.started && is_ready_now a (length a.tasks - 1), refusal.WrongLife)
    ∷ (nat_le MAX_INPUTS (length a.inputs), refusal.HistoryFull MAX_INPUTS) ∷ []

abbrev pub outside_checks : PoolState → ℕ → List Check
outside_checks a t =
    (nat_le (length a.tasks) t, refusal.NoTask)
    ∷ (not (is_fresh_at (slice_get a.tasks t)), refusal.WrongLife)
    ∷ (a.started && is_ready_now a t, refusal.WrongLife)
    ∷ (nat_le MAX_OUTSIDE (outside_at (slice_get a.tasks t)), refusal.HistoryFull MAX_OUTSIDE) ∷ []

abbrev pub release_checks : PoolState → ℕ → List Check
release_checks a t =
    (nat_le (length a.tasks) t, refusal.NoTask)
    ∷ (outside_at (slice_get a.tasks t) == 0, refusal.WrongLife) ∷ []

abbrev pub start_checks : PoolState → List Check
start_checks a =
    (a.started, refusal.WrongLife)
    ∷ (lacks_steps a (length a.tasks), refusal.HistoryFull MAX_STEPS) ∷ []

abbrev pub next_checks : PoolState → List Check
next_checks a = (not a.started, refusal.WrongLife) ∷ []

abbrev pub done_checks : PoolState → ℕ → List Check
done_checks a t = (nat_le (length a.tasks) t, refusal.NoTask) ∷ (not (is_running_at (slice_get a.tasks t)), refusal.WrongLife) ∷ []

-- each task is done
abbrev pub is_over : PoolState → Bool
is_over a = count_where is_unfinished a.tasks == 0

abbrev pub reset_checks : PoolState → List Check
reset_checks a = (a.grown, refusal.WrongLife) ∷ []

abbrev pub again_checks : PoolState → List Check
again_checks a = (not (a.started && is_over a), refusal.WrongLife) ∷ reset_checks a

-- none of the checks of `input` holds but for that of a ready task
pub record MayHaveInput (source : ℕ) (a : PoolState) : Type 0 where
  pub lower : source + 1 < length a.tasks
  pub fresh : IsTrue (is_fresh_at (slice_get a.tasks (length a.tasks - 1)))
  pub few : length a.inputs < MAX_INPUTS

-- Task t was not dispatched, and it may wait for one more input from outside; it waits for one.
pub record MayWait (t : ℕ) (a : PoolState) : Type 0 where
  pub task : Entry
  pub is : slice_get a.tasks t ≡ Some task
  pub fresh : task.stage ≡ stage.Fresh
  pub few : task.outside < MAX_OUTSIDE

pub record Awaits (t : ℕ) (a : PoolState) : Type 0 where
  pub task : Entry
  pub is : slice_get a.tasks t ≡ Some task
  pub some : 1 ≤ task.outside

-- ---- what each call does
-- Task t becomes what `f` makes of it; all else is as before.
pub record Becomes (t : ℕ) (f : Entry → Entry) (old new : PoolState) : Type 0 where
  pub was : Entry
  pub is : slice_get old.tasks t ≡ Some was
  pub becomes : new ≡ record old { tasks = slice_set old.tasks t (f was) }

-- `spawn`: a task with these inputs, which waits for this number of inputs from outside.
abbrev pub with_spawned : ℕ → List ℕ → ℕ → PoolState → PoolState
with_spawned class inputs outside a = record a {
  grown = a.grown || a.started;
  tasks = a.tasks ++ record { class = class; stage = stage.Fresh; outside = outside } ∷ [];
  inputs = a.inputs ++ map (λ s. record { source = s; target = length a.tasks }) inputs;
}

-- `task`: `spawn` without inputs. A task that is added after the start is held: it waits for one input from outside.
abbrev pub with_task : ℕ → PoolState → PoolState
with_task class a = with_spawned class [] (if a.started then 1 else 0) a

abbrev pub with_input : ℕ → PoolState → PoolState
with_input source a = record a {
  grown = a.grown || a.started;
  inputs = a.inputs ++ record { source = source; target = length a.tasks - 1 } ∷ [];
}

-- `outside`: task t waits for one more input from outside.
abbrev pub one_more : Entry → Entry
one_more x = record x { outside = x.outside + 1 }

-- `release`: task t waits for one input from outside less.
abbrev pub one_less : Entry → Entry
one_less x = record x { outside = x.outside - 1 }

abbrev pub with_event : Event → Option (List Event) → Option (List Event)
with_event e (Some es) = Some (es ++ e ∷ [])
with_event e None = None

-- Task t goes from one stage to the next, which is an event; all else is as before.
pub record GoesTo (t : ℕ) (from to : Stage) (e : Event) (old new : PoolState) : Type 0 where
  pub was : Entry
  pub is : slice_get old.tasks t ≡ Some was
  pub stage : was.stage ≡ from
  pub becomes : new ≡ record old { kept = with_event e old.kept; tasks = slice_set old.tasks t (record was { stage = to }) }

-- A ready task of the lowest class of which there is one.
pub record IsLowest (t : ℕ) (a : PoolState) : Type 0 where
  pub ready : IsReady t a
  pub lowest : NoneReadyBelow ready.task.class a

-- `next` with `Run t`: t was ready, no task of a lower class was, and it runs.
pub record IsDispatched (t : ℕ) (old new : PoolState) : Type 0 where
  pub lowest : IsLowest t old
  pub becomes : GoesTo t stage.Fresh stage.Running (event.Begin t) old new

-- `done`
abbrev pub IsReported : ℕ → PoolState → PoolState → Type 0
IsReported t old new = GoesTo t stage.Running stage.Done (event.Done t) old new

-- the events of this run, if any are kept: event k, and none of the next run
abbrev pub event_at : Option (List Event) → ℕ → Option Event
event_at (Some es) k = slice_get es k
event_at None k = None

abbrev pub no_events : Option (List Event) → Option (List Event)
no_events (Some es) = Some []
no_events None = None

-- `again` and `reset`: the graph as it was described. No task was dispatched, none waits for an input from outside, and the pool was not
-- started.
abbrev pub as_described : PoolState → PoolState
as_described a = record a {
  started = false;
  kept = no_events a.kept;
  tasks = map (λ (x : Entry). record { class = x.class; stage = stage.Fresh; outside = 0 }) a.tasks;
}

-- the checks of `spawn`
abbrev pub spawn_checks : PoolState → ℕ → List ℕ → ℕ → List Check
spawn_checks a class inputs outside =
    (nat_lt 3 class, refusal.BadSpec)
    ∷ (not (list_all (λ s. nat_lt s (length a.tasks)) inputs), refusal.NoTask)
    ∷ (nat_lt MAX_OUTSIDE outside, refusal.HistoryFull MAX_OUTSIDE)
    ∷ (nat_le MAX_TASKS (length a.tasks), refusal.HistoryFull MAX_TASKS)
    ∷ (nat_lt MAX_INPUTS (length a.inputs + length inputs), refusal.HistoryFull MAX_INPUTS)
    ∷ (a.started && lacks_steps a (length a.tasks + 1), refusal.HistoryFull MAX_STEPS) ∷ []

-- none of the checks of `spawn` holds
pub record MaySpawn (class : ℕ) (inputs : List ℕ) (outside : ℕ) (a : PoolState) : Type 0 where
  pub few_classes : class < 4
  pub lower : IsTrue (list_all (λ s. nat_lt s (length a.tasks)) inputs)
  pub few_outside : outside ≤ MAX_OUTSIDE
  pub few_tasks : length a.tasks < MAX_TASKS
  pub few_inputs : length a.inputs + length inputs ≤ MAX_INPUTS
  pub fits : IsFalse (a.started && lacks_steps a (length a.tasks + 1))
