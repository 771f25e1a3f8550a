-- The tasks of a pool as it stores them, and the numbers that it keeps of them.
use Rattle.std.specs.{List.slice_index_or, Prelude.{ℕ, ◌≡◌, ◌<◌, ◌≤◌, ◌==◌, ◌&&◌, List, Bool, true, false, length, IsTrue, IsFalse, Option}}
use Rattle.std.specs.Prelude.{Some, None, slice_get}
use Rattle.tp_dag.specs.{State.{Entry, is_fresh, count_where, is_unfinished, is_dispatched, is_awaiting}, declared.entry.Task.Task}
use Rattle.tp_dag.specs.declared.{limits.TheConstants.MAX_TASKS, tasks.Tasks.TheInside.Inside}
use Rattle.tp_dag.specs.declared.entry.Stage.TheVariants as stage

abbrev pub TaskList : Type 0
TaskList = List Task

abbrev pub entry_of : Task → Entry
entry_of x = record { class = x.class; stage = x.stage; outside = x.outside }

abbrev pub one : Bool → ℕ
one true = 1
one false = 0

-- a task that may begin
abbrev pub may_begin : Task → Bool
may_begin x = is_fresh x.stage && (x.missing == 0)

abbrev pub is_ready : ℕ → Task → Bool
is_ready class x = (x.class == class) && may_begin x

-- whether this is a ready task of the class
abbrev pub ready_at : ℕ → Option Task → Bool
ready_at class (Some x) = is_ready class x
ready_at class None = false

abbrev pub NoneOf : ℕ → List Task → Type 0
NoneOf class tasks = (t : ℕ) → IsFalse (ready_at class (slice_get tasks t))

abbrev pub NoneReady : List Task → Type 0
NoneReady tasks = (class : ℕ) → class < 4 → NoneOf class tasks

-- Task t is ready, and no ready task is of a lower class.
pub record ComesFirst (t : ℕ) (tasks : List Task) : Type 0 where
  pub task : Task
  pub is : slice_get tasks t ≡ Some task
  pub ready : IsTrue (may_begin task)
  pub lowest : (u : ℕ) (y : Task) → slice_get tasks u ≡ Some y → IsTrue (may_begin y) → task.class ≤ y.class

-- a task as it was described
abbrev pub as_new : Task → Task
as_new x = record x { stage = stage.Fresh; missing = x.inputs; outside = 0 }

pub record AreCounts (tasks : List Task) (ready : List ℕ) : Type 0 where
  pub long : length ready ≡ 4
  pub right : (n d : ℕ) → n < 4 → slice_index_or ready n d ≡ count_where (is_ready n) tasks

pub record AreCounted (tasks : List Task) (counts : List ℕ) (n m k : ℕ) : Type 0 where
  pub few : length tasks ≤ MAX_TASKS
  pub classes : (t : ℕ) (x : Task) → slice_get tasks t ≡ Some x → x.class < 4
  pub ready : AreCounts tasks counts
  pub left : n ≡ count_where (λ x. is_unfinished (entry_of x)) tasks
  pub running : m ≡ count_where (λ x. is_dispatched (entry_of x)) tasks
  pub awaiting : k ≡ count_where (λ x. is_awaiting (entry_of x)) tasks

abbrev pub IsTasks : Inside → Type 0
IsTasks p = AreCounted p.items.items p.ready p.left p.running p.awaiting

abbrev pub items_of : Inside → TaskList
items_of p = p.items.items
