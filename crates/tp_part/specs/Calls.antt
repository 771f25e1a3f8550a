-- The calls of a part: the checks of each, in their order, and what each does.
use Rattle.std.specs.{List.{list_all, list_any}, Option.is_some, Prelude.{ℕ, ◌+◌, ◌≡◌, ◌<◌, ◌≤◌, ◌&&◌, ◌==◌, List, [], ◌∷◌, ◌++◌, Bool}}
use Rattle.std.specs.Prelude.{false, not, length, map, slice_get, slice_set, Option, Some, None, nat_le, nat_lt, if◌then◌else◌, IsTrue}
use Rattle.std.specs.Prelude.{IsFalse}
use Rattle.tp_base.specs.Checks.{Check}
use Rattle.tp_dag.specs.{State.is_running, declared.limits.TheConstants.{MAX_TASKS, MAX_INPUTS, MAX_OUTSIDE}}
use Rattle.tp_part.specs.{Edges.{has_edge, new_edge, pass, places}, State.{PartState, Progress, place_in, IsOwn, IsReady, HasSentAll}}
use Rattle.tp_part.specs.{State.AreDone, declared.edges.Edge.Edge}
use Rattle.tp_base.specs.declared.refusal.Refusal.TheVariants as refusal
use Rattle.tp_dag.specs.declared.entry.Stage.TheVariants as stage

abbrev pub new_part : ℕ → ℕ → PartState
new_part number parts = record {
  number = number;
  parts = parts;
  started = false;
  described = 0;
  inputs = 0;
  numbers = [];
  tasks = [];
  links = [];
  incoming = [];
  outgoing = [];
  outbox = [];
  sent = 0;
}

-- ---- `task`
-- All parts that describe the same tasks refuse the same call, but for memory.
abbrev pub task_checks : PartState → ℕ → ℕ → List ℕ → List Check
task_checks a owner class inputs =
    (a.started, refusal.WrongLife)
    ∷ (nat_le a.parts owner, refusal.NoNode)
    ∷ (nat_lt 3 class, refusal.BadSpec)
    ∷ (not (list_all (λ u. nat_lt u a.described) inputs), refusal.NoTask)
    ∷ (nat_lt MAX_OUTSIDE (length inputs), refusal.HistoryFull MAX_OUTSIDE)
    ∷ (nat_le MAX_TASKS a.described, refusal.HistoryFull MAX_TASKS)
    ∷ (nat_lt MAX_INPUTS (a.inputs + length inputs), refusal.HistoryFull MAX_INPUTS) ∷ []

-- none of them holds
pub record MayDescribe (owner class : ℕ) (inputs : List ℕ) (a : PartState) : Type 0 where
  pub not_started : IsFalse a.started
  pub is_part : owner < a.parts
  pub few_classes : class < 4
  pub lower : IsTrue (list_all (λ u. nat_lt u a.described) inputs)
  pub few : length inputs ≤ MAX_OUTSIDE
  pub few_tasks : a.described < MAX_TASKS
  pub few_inputs : a.inputs + length inputs ≤ MAX_INPUTS

abbrev pub with_place : Option ℕ → List ℕ → List ℕ
with_place (Some k) ks = k ∷ ks
with_place None ks = ks

-- the places of those of these tasks that are own
abbrev pub own_places : List ℕ → List ℕ → List ℕ
own_places numbers [] = []
own_places numbers (u ∷ us) = with_place (place_in numbers u) (own_places numbers us)

-- from those that are not own an edge each to the own task at this place
abbrev pub edges_to : ℕ → List ℕ → List ℕ → List Edge
edges_to k numbers [] = []
edges_to k numbers (u ∷ us) = if is_some (place_in numbers u) then edges_to k numbers us else new_edge u k ∷ edges_to k numbers us

-- from those that are own an edge each to part q, but for those that have one
abbrev pub with_message : ℕ → List ℕ → ℕ → List Edge → List Edge
with_message q numbers u es = if is_some (place_in numbers u) && not (has_edge u q es) then es ++ new_edge u q ∷ [] else es

abbrev pub with_messages : ℕ → List ℕ → List ℕ → List Edge → List Edge
with_messages q numbers [] es = es
with_messages q numbers (u ∷ us) es = with_messages q numbers us (with_message q numbers u es)

-- An own task is one more to run; a task of another part may be one more reader of own values.
abbrev pub with_own : ℕ → List ℕ → PartState → PartState
with_own class inputs a = record a {
  described = a.described + 1;
  inputs = a.inputs + length inputs;
  numbers = a.numbers ++ a.described ∷ [];
  tasks = a.tasks ++ record { class = class; stage = stage.Fresh } ∷ [];
  links = a.links ++ map (λ s. record { source = s; target = length a.tasks }) (own_places a.numbers inputs);
  incoming = a.incoming ++ edges_to (length a.tasks) a.numbers inputs;
}

abbrev pub with_foreign : ℕ → List ℕ → PartState → PartState
with_foreign owner inputs a = record a {
  described = a.described + 1;
  inputs = a.inputs + length inputs;
  outgoing = with_messages owner a.numbers inputs a.outgoing;
}

abbrev pub with_task : ℕ → ℕ → List ℕ → PartState → PartState
with_task owner class inputs a = if owner == a.number then with_own class inputs a else with_foreign owner inputs a

-- ---- `start`
abbrev pub start_checks : PartState → List Check
start_checks a = (a.started, refusal.WrongLife) ∷ []

-- ---- `next`
abbrev pub next_checks : PartState → List Check
next_checks a = (not a.started, refusal.WrongLife) ∷ []

-- `Run t`: no message is due, own task t is ready, no ready task is of a lower class, and it runs.
pub record Runs (t : ℕ) (old new : PartState) : Type 0 where
  pub place : ℕ
  pub own : IsOwn t place old
  pub ready : IsReady place old
  pub lowest : (k : ℕ) → (r : IsReady k old) → ready.task.class ≤ r.task.class
  pub none_due : HasSentAll old
  pub becomes : new ≡ record old { tasks = slice_set old.tasks place (record ready.task { stage = stage.Running }) }

-- `Send u q`: the message with the value of task u to part q is the oldest that is due, and is sent.
pub record Sends (u q : ℕ) (old new : PartState) : Type 0 where
  pub place : ℕ
  pub due : slice_get old.outbox old.sent ≡ Some place
  pub edge : Edge
  pub is : slice_get old.outgoing place ≡ Some edge
  pub value : edge.value ≡ u
  pub target : edge.target ≡ q
  pub becomes : new ≡ record old { sent = old.sent + 1 }

-- `Wait`: no message is due, no task is ready, and not all are done.
pub record IsWaiting (a : PartState) : Type 0 where
  pub none_due : HasSentAll a
  pub none_ready : (k : ℕ) → IsReady k a → ⊥
  pub not_done : AreDone a → ⊥

-- `Over`: all tasks are done, and all messages are sent.
pub record IsOver (a : PartState) : Type 0 where
  pub done : AreDone a
  pub none_due : HasSentAll a

-- ---- `done`
abbrev pub task_at : Option ℕ → List Progress → Option Progress
task_at (Some k) xs = slice_get xs k
task_at None xs = None

abbrev pub is_running_at : Option Progress → Bool
is_running_at (Some x) = is_running x.stage
is_running_at None = false

abbrev pub done_checks : PartState → ℕ → List Check
done_checks a t =
    (not (is_some (place_in a.numbers t)), refusal.NoTask)
    ∷ (not (is_running_at (task_at (place_in a.numbers t) a.tasks)), refusal.WrongLife) ∷ []

-- Own task t ran and is done; its messages are due, those to parts that were described last first.
pub record Ends (t : ℕ) (old new : PartState) : Type 0 where
  pub place : ℕ
  pub own : IsOwn t place old
  pub task : Progress
  pub is : slice_get old.tasks place ≡ Some task
  pub runs : task.stage ≡ stage.Running
  pub becomes : new ≡ record old {
    tasks = slice_set old.tasks place (record task { stage = stage.Done });
    outgoing = pass t old.outgoing;
    outbox = old.outbox ++ places t old.outgoing (length old.outgoing);
  }

-- ---- `arrived`
abbrev pub is_read : ℕ → List Edge → Bool
is_read u es = list_any (λ e. e.value == u) es

abbrev pub has_arrived : ℕ → List Edge → Bool
has_arrived u es = list_any (λ e. (e.value == u) && e.passed) es

abbrev pub arrived_checks : PartState → ℕ → List Check
arrived_checks a u =
    (not a.started, refusal.WrongLife)
    ∷ (not (is_read u a.incoming), refusal.NoTask)
    ∷ (has_arrived u a.incoming, refusal.WrongLife) ∷ []

abbrev pub with_arrival : ℕ → PartState → PartState
with_arrival u a = record a { incoming = pass u a.incoming }
