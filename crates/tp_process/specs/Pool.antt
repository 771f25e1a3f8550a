-- A pool over all processes of one epoch, in which running tasks make tasks: its state, its events, and the theorems
-- about it. What an event does to a process is what the call of `TaskCounts` or of `Process` does.
use Rattle.std.specs.Prelude.{ℕ, ◌+◌, ◌-◌, ◌*◌, ◌^◌, ◌==◌, ◌&&◌, ◌≡◌, ◌<◌, ◌≤◌, ◌⊎◌, List, [], ◌∷◌, ◌++◌, Bool, false}
use Rattle.std.specs.Prelude.{IsTrue, nat_lt, if◌then◌else◌}
use Rattle.tp_base.specs.Totals.{total}
use Rattle.tp_process.specs.{Calls.moved, declared.outcome.Next.TheVariants.Ended}
use Rattle.tp_process.specs.Tasks.{Tasks, added, added_due, began, can_begin, can_make}
use Rattle.tp_process.specs.Tasks.{can_receive_task, can_send_task, can_settle, completed}
use Rattle.tp_process.specs.Tasks.{dropped, given, is_idle, new_tasks, read_tasks, receives_task}
use Rattle.tp_process.specs.Tasks.{sends_task, settled, task_received, task_sent}
use Rattle.tp_process.specs.{Tasks.without_opening, World.{World, Moves, beginning, came, control_at, does, is_step, is_taken, put}}

pub record Pool : Type 0 where
  -- the tasks of the processes, by number
  pub tasks : ℕ → Tasks
  -- the processes, and what is between them: a message under way is a task
  pub world : World
  -- the number of tasks that were made, that were begun, that are done, and that were dropped, at all processes
  pub made : ℕ
  pub begun : ℕ
  pub done : ℕ
  pub dropped : ℕ

-- what a process calls
pub data Call : Type 0 where
  Add : Call
  AddDue : Call
  Begin : Call
  Done : Call
  DropWaiting : Call
  Give : Call
  Close : Call
  SendTask : (to : ℕ) → Call
  Receive : Call
  Settle : Call
  Next : Call

-- An event: a process makes a call, or a control message that was sent before comes: in any order, once, again or never.
pub data PoolEvent : Type 0 where
  Calls : (i : ℕ) → (call : Call) → PoolEvent
  Brings : (which : ℕ) → PoolEvent

-- Process i makes a call. It sends a task only to a process, and receives only one that is under way to it.
abbrev pub calls : ℕ → Pool → ℕ → Call → Pool
calls n c i Add =
    if can_make (c.tasks i).waiting (c.tasks i) then record c { tasks = put i (added (c.tasks i)) c.tasks; made = c.made + 1 } else c
calls n c i AddDue =
    if can_make (c.tasks i).due (c.tasks i) then record c { tasks = put i (added_due (c.tasks i)) c.tasks; made = c.made + 1 } else c
calls n c i Begin =
    if can_begin (c.tasks i) then record c { tasks = put i (began (c.tasks i)) c.tasks; begun = c.begun + 1 } else c
calls n c i Done =
    if (c.tasks i).running == 0 then c else record c { tasks = put i (completed (c.tasks i)) c.tasks; done = c.done + 1 }
calls n c i DropWaiting =
    record c { tasks = put i (dropped (c.tasks i)) c.tasks; dropped = c.dropped + (c.tasks i).waiting }
calls n c i Give = record c { tasks = put i (given (c.tasks i)) c.tasks }
calls n c i Close = record c { tasks = put i (without_opening (c.tasks i)) c.tasks }
calls n c i (SendTask j) =
    if can_send_task (c.tasks i) (c.world.at i) && nat_lt j n
    then record c {
      tasks = put i (task_sent (c.tasks i) (c.world.at i)) c.tasks;
      world = record c.world {
        at = put i (sends_task (c.tasks i) (c.world.at i)) c.world.at;
        under_way = put j (c.world.under_way j + 1) c.world.under_way;
      };
    }
    else c
calls n c i Receive =
    if can_receive_task (c.tasks i) (c.world.at i) && nat_lt 0 (c.world.under_way i)
    then record c {
      tasks = put i (task_received (c.tasks i) (c.world.at i)) c.tasks;
      world = record c.world {
        at = put i (receives_task (c.tasks i) (c.world.at i)) c.world.at;
        under_way = put i (c.world.under_way i - 1) c.world.under_way;
      };
    }
    else c
calls n c i Settle = record c { world = record c.world { at = put i (settled (c.tasks i) (c.world.at i)) c.world.at } }
calls n c i Next = record c { world = does n c.world i Moves }

-- the pool after an event of n processes
abbrev pub pool_step : ℕ → Pool → PoolEvent → Pool
pool_step n c (Calls i call) = if nat_lt i n then calls n c i call else c
pool_step n c (Brings k) = record c { world = came n c.world (control_at c.world.controls k) }

-- the pool after these events of n processes, the newest first
abbrev pub pool : ℕ → List PoolEvent → Pool
pool n [] = record { tasks = λ i. read_tasks new_tasks; world = beginning n; made = 0; begun = 0; done = 0; dropped = 0 }
pool n (e ∷ past) = pool_step n (pool n past) e

-- No task is left: at each process none waits, runs or is due, and the opening has ended; and none is under way.
pub record IsDone (n : ℕ) (c : Pool) : Type 0 where
  pub idle : (i : ℕ) → i < n → IsTrue (is_idle (c.tasks i))
  pub none_under_way : (i : ℕ) → i < n → c.world.under_way i ≡ 0

-- Safety: if a process knows the end, no task is left, then and at any time after.
abbrev pub PoolNeverEarlyLaw : Type 0
PoolNeverEarlyLaw = (n i : ℕ) (later events : List PoolEvent) → i < n → IsTrue (((pool n events).world.at i).over)
    → IsDone n (pool n (later ++ events))

-- The same if `next` returns `Ended` at some process.
abbrev pub PoolEndedLaw : Type 0
PoolEndedLaw = (n i : ℕ) (later events : List PoolEvent) → i < n → (moved ((pool n events).world.at i)).next ≡ Ended
    → IsDone n (pool n (later ++ events))

-- A process has at most one piece of work open, and has one unless it is idle.
pub record IsWork (t : Tasks) (pending : ℕ) : Type 0 where
  pub at_most : pending ≤ 1
  pub some : is_idle t ≡ false → pending ≡ 1

abbrev pub WorkLaw : Type 0
WorkLaw = (n i : ℕ) (events : List PoolEvent) → i < n → IsWork ((pool n events).tasks i) ((pool n events).world.at i).pending

-- No task is lost and none is doubled: each that was made is in one place.
pub record AreCounted (n : ℕ) (c : Pool) : Type 0 where
  pub made : c.made ≡ c.begun + c.dropped + total n (λ i. (c.tasks i).waiting + (c.tasks i).due + c.world.under_way i)
  pub begun : c.begun ≡ c.done + total n (λ i. (c.tasks i).running)

abbrev pub CountedTasksLaw : Type 0
CountedTasksLaw = (n : ℕ) (events : List PoolEvent) → AreCounted n (pool n events)

-- Once `next` returns `Ended`, each task that was made was dropped, or was begun and is done.
abbrev pub AllDoneLaw : Type 0
AllDoneLaw = (n i : ℕ) (events : List PoolEvent) → i < n → (moved ((pool n events).world.at i)).next ≡ Ended
    → ((pool n events).made ≡ (pool n events).done + (pool n events).dropped) × ((pool n events).begun ≡ (pool n events).done)

-- The event is useful: a process finishes its work, or a wave makes progress.
abbrev pub is_useful_call : ℕ → Pool → PoolEvent → Bool
is_useful_call n c (Calls i Settle) = nat_lt i n && can_settle (c.tasks i) (c.world.at i)
is_useful_call n c (Calls i Next) = nat_lt i n && is_step (moved (c.world.at i)).next
is_useful_call n c (Calls i _) = false
is_useful_call n c (Brings k) = is_taken n c.world (control_at c.world.controls k)

-- the number of useful events among the later ones
abbrev pub useful_calls : ℕ → List PoolEvent → List PoolEvent → ℕ
useful_calls n [] events = 0
useful_calls n (e ∷ later) events =
    if is_useful_call n (pool n (later ++ events)) e then useful_calls n later events + 1 else useful_calls n later events

-- Liveness, a bound: once no task is left, at most 15n - 11 more events are useful, whatever happens, in whatever order.
abbrev pub SoonDoneLaw : Type 0
SoonDoneLaw = (n : ℕ) (later events : List PoolEvent) → 0 < n → IsDone n (pool n events) → useful_calls n later events + 11 ≤ 15 * n

-- Liveness, no deadlock: once no task is left, a useful event is possible until `next` returns `Ended` at each process.
abbrev pub GoesOnDoneLaw : Type 0
GoesOnDoneLaw = (n : ℕ) (events : List PoolEvent) → 0 < n → n ≤ 2 ^ 20 → ((pool n events).world.at 0).wave + 1 < 2 ^ 64
    → IsDone n (pool n events)
    → ((i : ℕ) → i < n → (moved ((pool n events).world.at i)).next ≡ Ended)
    ⊎ ((e : PoolEvent) × IsTrue (is_useful_call n (pool n events) e))
