-- What a flow keeps, which descriptions it follows, and when a call is refused.
use Rattle.std.specs.{List.All, Prelude.{ℕ, ◌≡◌, ◌<◌, ◌-◌, ◌==◌, ◌||◌, ◌++◌, List, [], ◌∷◌, Bool, false, not, length, map, nat_le, nat_lt}}
use Rattle.std.specs.{Prelude.{Option, Some, None, IsTrue, slice_get, slice_index_or, if◌then◌else◌}, Vec.vec_capacity}
use Rattle.tp_base.specs.Checks.{Check}
use Rattle.tp_flow.specs.Description.{Task, Description, last_writer, readers_since, newest_of, all_below, AreOrdered, AreTasksBelow}
use Rattle.tp_flow.specs.{Description.writes, declared.{access.{Access.Access, Mode.Mode}, flow.Flow.TheInside.Inside}}
use Rattle.tp_flow.specs.declared.{limits.TheConstants.MAX_HANDLES, uses.Uses.Uses}
use Rattle.tp_base.specs.declared.refusal.Refusal.TheVariants as refusal

-- What is kept of a handle: its last writer, and the tasks that read it since, the oldest first.
pub record HandleState : Type 0 where
  pub writer : Option ℕ
  pub readers : List ℕ

-- The number of the newest task, and what is kept of each handle.
pub record FlowState : Type 0 where
  pub newest : Option ℕ
  pub handles : List HandleState

-- This, and for each handle whether one more reader fits before memory has to grow.
pub record RoomyFlow : Type 0 where
  pub state : FlowState
  pub room : List Bool

abbrev pub handle_of : ℕ → List Task → HandleState
handle_of h tasks = record { writer = last_writer h tasks; readers = readers_since h tasks }

-- The flow has the description's handles and newest task, and knows of each handle who wrote it last and who read it since.
pub record Follows (d : Description) (a : FlowState) : Type 0 where
  pub ordered : AreOrdered d.tasks
  pub below : AreTasksBelow d.handles d.tasks
  pub newest : a.newest ≡ newest_of d.tasks
  pub count : length a.handles ≡ d.handles
  pub each : (h : ℕ) → h < d.handles → slice_get a.handles h ≡ Some (handle_of h d.tasks)

-- Each flow follows some description: the one that its calls made.
pub record HasDescription (a : FlowState) : Type 0 where
  pub description : Description
  pub follows : Follows description a

-- ---- the checks of the calls
abbrev pub is_not_above : Option ℕ → ℕ → Bool
is_not_above None n = false
is_not_above (Some m) n = nat_le n m

abbrev pub handle_checks : FlowState → List Check
handle_checks a = (nat_le MAX_HANDLES (length a.handles), refusal.HistoryFull MAX_HANDLES) ∷ []

abbrev pub find_checks : FlowState → ℕ → List Access → List Check
find_checks a task accesses =
    (is_not_above a.newest task, refusal.TaskKnown)
    ∷ (not (all_below (length a.handles) accesses), refusal.BadSpec) ∷ []

-- A task with these accesses can be recorded: its number is above the others, the handles are there, and each that it reads has room.
pub record IsReady (task : ℕ) (accesses : List Access) (a : RoomyFlow) : Type 0 where
  pub above : is_not_above a.state.newest task ≡ false
  pub below : IsTrue (all_below (length a.state.handles) accesses)
  pub room : All (λ x. writes x.mode ≡ false → IsTrue (slice_index_or a.room x.handle.0 false)) accesses

-- ---- what the code keeps
abbrev pub state_of_uses : Uses → HandleState
state_of_uses u = record { writer = u.writer; readers = u.readers.items }

abbrev pub has_room : Uses → Bool
has_room u = nat_lt (length u.readers.items) (vec_capacity u.readers)

abbrev pub view_of : Inside → RoomyFlow
view_of p = record {
  state = record { newest = p.newest; handles = map state_of_uses p.handles.items };
  room = map has_room p.handles.items;
}

-- This is kept of each handle after these tasks.
abbrev pub AreKept : List Uses → List Task → Type 0
AreKept us tasks = (h : ℕ) (u : Uses) → h < length us → state_of_uses (slice_index_or us h u) ≡ handle_of h tasks

abbrev pub is_number : Option ℕ → ℕ → Bool
is_number None n = false
is_number (Some m) n = m == n

-- the task is the last writer, or the newest reader
abbrev pub is_recorded : ℕ → HandleState → Bool
is_recorded task u = is_number u.writer task || is_number (slice_get u.readers (length u.readers - 1)) task

-- after an access by the newest task
abbrev pub with_access : ℕ → Mode → HandleState → HandleState
with_access task m u = if writes m then record { writer = Some task; readers = [] }
    else if is_recorded task u then u else record u { readers = u.readers ++ task ∷ [] }

-- Each of these accesses can be recorded: it writes, the task is recorded, or there is room.
abbrev pub can_record : ℕ → Uses → Bool
can_record task u = is_recorded task (state_of_uses u) || has_room u

-- each handle that these accesses read passes the test
abbrev pub Pass : (Uses → Bool) → List Uses → List Access → Type 0
Pass test us accesses = All (λ x. writes x.mode ≡ false → IsTrue (slice_index_or (map test us) x.handle.0 false)) accesses
