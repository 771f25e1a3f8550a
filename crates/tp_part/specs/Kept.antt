-- The invariant of a part: its own tasks are those of its pool, which wait for values that are yet to arrive, and there is room for
-- messages.
use Rattle.std.specs.Prelude.{ℕ, ◌+◌, ◌≡◌, ◌<◌, ◌≤◌, ◌==◌, ◌&&◌, List, Bool, not, length, map, IsTrue, IsFalse, slice_get, Some, None}
use Rattle.std.specs.Vec.{vec_capacity}
use Rattle.tp_dag.specs.{State.{PoolState, Entry, count_where}, declared.limits.TheConstants.{MAX_TASKS, MAX_INPUTS}}
use Rattle.tp_part.specs.{State.{PartState, Progress}, declared.{edges.Edge.Edge, part.Part.TheInside.Inside}}
use Rattle.tp_dag.specs.declared.entry.Stage.TheVariants as stage

-- ---- what own tasks wait for
-- an edge for whose value the own task at place k waits
abbrev pub is_awaited_at : ℕ → Edge → Bool
is_awaited_at k e = (e.target == k) && not e.passed

-- Edges lead to tasks of the pool, each of which waits for as many inputs from outside as values are yet to arrive.
pub record AreAwaited (es : List Edge) (tasks : List Entry) : Type 0 where
  pub within : (n : ℕ) (e : Edge) → slice_get es n ≡ Some e → e.target < length tasks
  pub counted : (k : ℕ) (x : Entry) → slice_get tasks k ≡ Some x → x.outside ≡ count_where (is_awaited_at k) es

abbrev pub progress_of : Entry → Progress
progress_of x = record { class = x.class; stage = x.stage }

-- Pools that differ in what is awaited from outside.
pub record SameBut (old new : PoolState) : Type 0 where
  pub started : new.started ≡ old.started
  pub kept : new.kept ≡ old.kept
  pub inputs : new.inputs ≡ old.inputs
  pub tasks : map progress_of new.tasks ≡ map progress_of old.tasks

-- ---- the part
-- The numbers ascend.
abbrev pub Ascends : List ℕ → Type 0
Ascends ns = (i j x y : ℕ) → i < j → slice_get ns i ≡ Some x → slice_get ns j ≡ Some y → x < y

abbrev pub state_of : Inside → PartState
state_of p = record {
  number = p.number;
  parts = p.parts;
  started = p.pool.started;
  described = p.described;
  inputs = p.inputs;
  numbers = p.numbers.items;
  tasks = map progress_of p.pool.tasks;
  links = p.pool.inputs;
  incoming = p.incoming;
  outgoing = p.outgoing;
  outbox = p.outbox.items;
  sent = p.sent;
}

abbrev pub is_passed : Edge → Bool
is_passed e = e.passed

-- The own task of this number is done.
abbrev pub IsDone : ℕ → List ℕ → List Entry → Type 0
IsDone t numbers tasks = (k : ℕ) × (x : Entry) × (slice_get numbers k ≡ Some t) × (slice_get tasks k ≡ Some x) × (x.stage ≡ stage.Done)

-- Own tasks, with their numbers, of those that were described.
pub record AreNumbers (numbers : List ℕ) (described : ℕ) : Type 0 where
  pub ascends : Ascends numbers
  pub below : (k t : ℕ) → slice_get numbers k ≡ Some t → t < described
  pub few_tasks : described ≤ MAX_TASKS
  pub few_own : length numbers ≤ described

-- The edges of a value were passed all or none.
abbrev pub AreAlike : List Edge → Type 0
AreAlike es = (n m : ℕ) (d e : Edge) → slice_get es n ≡ Some d → slice_get es m ≡ Some e → d.value ≡ e.value → d.passed ≡ e.passed

-- Incoming values: the edges of one arrived all or none.
pub record AreIncoming (started : Bool) (tasks : List Entry) (incoming : List Edge) : Type 0 where
  pub awaited : AreAwaited incoming tasks
  pub alike : AreAlike incoming
  pub none_arrived : IsFalse started → (n : ℕ) (e : Edge) → slice_get incoming n ≡ Some e → IsFalse e.passed

-- Outgoing values: the messages of done tasks were posted.
pub record ArePosted (numbers : List ℕ) (tasks : List Entry) (outgoing : List Edge) (outbox : List ℕ) : Type 0 where
  pub posted : length outbox ≡ count_where is_passed outgoing
  pub within : (n k : ℕ) → slice_get outbox n ≡ Some k → k < length outgoing
  pub done : (n : ℕ) (e : Edge) → slice_get outgoing n ≡ Some e → IsTrue e.passed → IsDone e.value numbers tasks

-- Of a part with these own tasks, numbers of described tasks and inputs, pool, edges, outbox with its capacity, and number of sent
-- messages: the own tasks are those of the pool, which keeps no events, and there is room for messages.
pub record Holds (numbers : List ℕ) (described inputs : ℕ) (pool : PoolState) (incoming outgoing : List Edge) (outbox : List ℕ)
    (capacity count : ℕ) : Type 0 where
  pub long : length numbers ≡ length pool.tasks
  pub untraced : pool.kept ≡ None
  pub own : AreNumbers numbers described
  pub few_inputs : inputs ≤ MAX_INPUTS
  pub few_links : length pool.inputs + length incoming ≤ inputs
  pub few_outgoing : length outgoing ≤ inputs
  pub arriving : AreIncoming pool.started pool.tasks incoming
  pub messages : ArePosted numbers pool.tasks outgoing outbox
  pub room : length outgoing ≤ capacity
  pub sent : count ≤ length outbox

abbrev pub IsPart : Inside → Type 0
IsPart p = Holds p.numbers.items p.described p.inputs p.pool p.incoming p.outgoing p.outbox.items (vec_capacity p.outbox) p.sent
