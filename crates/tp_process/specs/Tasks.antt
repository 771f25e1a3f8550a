-- The tasks of one process, if running tasks make tasks: what each call does to their numbers and to the process, and
-- when it is refused. A refused call changes nothing. The process has one piece of work, as long as it is not idle here.
use Rattle.std.specs.Prelude.{ℕ, ◌+◌, ◌-◌, ◌==◌, ◌&&◌, ◌||◌, Bool, true, false, not, nat_lt, if◌then◌else◌, Option, Some, None}
use Rattle.std.specs.Prelude.{Result, Ok, Err}
use Rattle.tp_process.specs.Calls.{can_receive, can_send, closed, received, receive_refusal, send_refusal, sent}
use Rattle.tp_process.specs.{Epochs.{can_reopen, of_epoch, with_state}, Opening.{checked, if_open, is_open}}
use Rattle.tp_process.specs.State.{EpochState, ProcessState, is_set}
use Rattle.tp_process.specs.declared.{epoch_state.TheConstants.LIMIT, task_counts.TaskCounts.TaskCounts}
use Rattle.tp_process.specs.declared.outcome.Refusal.{Refusal, TheVariants.{Inactive, Full, NotOpen}}

pub record Tasks : Type 0 where
  -- the number of tasks that wait here, that run here, and that were made here for other processes and are not sent
  pub waiting : ℕ
  pub running : ℕ
  pub due : ℕ
  -- The opening makes tasks too: what a process does before its first task.
  pub opening : Bool

-- what the stored numbers and the byte mean
abbrev pub read_tasks : TaskCounts → Tasks
read_tasks c = record { waiting = c.waiting; running = c.running; due = c.due; opening = is_set c.opening }

-- no task yet, and the opening
abbrev pub new_tasks : TaskCounts
new_tasks = record { waiting = 0; running = 0; due = 0; opening = 1 }

-- No task is left here, and none can be made.
abbrev pub is_idle : Tasks → Bool
is_idle t = not t.opening && (t.waiting == 0) && (t.running == 0) && (t.due == 0)

-- Only the opening and running tasks make tasks. The number is the one that rises.
abbrev pub is_active : Tasks → Bool
is_active t = t.opening || not (t.running == 0)

abbrev pub make_refusal : ℕ → Tasks → Option Refusal
make_refusal number t = if is_active t then (if nat_lt number LIMIT then None else Some Full) else Some Inactive

abbrev pub can_make : ℕ → Tasks → Bool
can_make number t = is_active t && nat_lt number LIMIT

-- one more task for this process
abbrev pub added : Tasks → Tasks
added t = if can_make t.waiting t then record t { waiting = t.waiting + 1 } else t

-- one more task for another process
abbrev pub added_due : Tasks → Tasks
added_due t = if can_make t.due t then record t { due = t.due + 1 } else t

abbrev pub begin_refusal : Tasks → Option Refusal
begin_refusal t = if t.waiting == 0 then Some Inactive else (if nat_lt t.running LIMIT then None else Some Full)

abbrev pub can_begin : Tasks → Bool
can_begin t = not (t.waiting == 0) && nat_lt t.running LIMIT

-- A task that waits runs.
abbrev pub began : Tasks → Tasks
began t = if can_begin t then record t { waiting = t.waiting - 1; running = t.running + 1 } else t

abbrev pub done_refusal : Tasks → Option Refusal
done_refusal t = if t.running == 0 then Some Inactive else None

-- one running task less
abbrev pub completed : Tasks → Tasks
completed t = record t { running = t.running - 1 }

abbrev pub dropped : Tasks → Tasks
dropped t = record t { waiting = 0 }

abbrev pub give_refusal : Tasks → Option Refusal
give_refusal t = if t.waiting == 0 then Some Inactive else (if nat_lt t.due LIMIT then None else Some Full)

abbrev pub can_give_task : Tasks → Bool
can_give_task t = not (t.waiting == 0) && nat_lt t.due LIMIT

-- A task that waits is for another process now.
abbrev pub given : Tasks → Tasks
given t = if can_give_task t then record t { waiting = t.waiting - 1; due = t.due + 1 } else t

abbrev pub opening_refusal : Tasks → Option Refusal
opening_refusal t = if t.opening then None else Some Inactive

abbrev pub without_opening : Tasks → Tasks
without_opening t = record t { opening = false }

abbrev pub can_send_task : Tasks → EpochState → Bool
can_send_task t p = not (t.due == 0) && can_send p

abbrev pub send_task_refusal : Tasks → ProcessState → Option Refusal
send_task_refusal t r = if t.due == 0 then Some Inactive else checked r (send_refusal r.state)

-- A task that was due is sent.
abbrev pub task_sent : Tasks → EpochState → Tasks
task_sent t p = if can_send_task t p then record t { due = t.due - 1 } else t

abbrev pub sends_task : Tasks → EpochState → EpochState
sends_task t p = if can_send_task t p then sent p else p

abbrev pub can_receive_task : Tasks → EpochState → Bool
can_receive_task t p = nat_lt t.waiting LIMIT && can_receive p

abbrev pub receive_task_refusal : ℕ → Tasks → ProcessState → Option Refusal
receive_task_refusal e t r = if nat_lt t.waiting LIMIT then checked r (of_epoch e r (receive_refusal r.state)) else Some Full

-- A task that comes waits here.
abbrev pub task_received : Tasks → EpochState → Tasks
task_received t p = if can_receive_task t p then record t { waiting = t.waiting + 1 } else t

-- If work was open, it is that of this task, too.
abbrev pub receives_task : Tasks → EpochState → EpochState
receives_task t p = if can_receive_task t p then (if p.pending == 0 then received p else closed (received p)) else p

-- The process has work open, and no task is left here.
abbrev pub can_settle : Tasks → EpochState → Bool
can_settle t p = is_idle t && not (p.pending == 0)

abbrev pub settle_result : Tasks → ProcessState → Result Bool Refusal
settle_result t r = if is_open r then Ok (can_settle t r.state) else Err NotOpen

abbrev pub settled : Tasks → EpochState → EpochState
settled t p = if can_settle t p then closed p else p

-- The same calls on a process that may not be open, or be in another epoch than the task that comes: nothing changes.
abbrev pub is_open_in : ℕ → ProcessState → Bool
is_open_in e r = is_open r && (e == r.epoch)

abbrev pub tasks_after_send : Tasks → ProcessState → Tasks
tasks_after_send t r = if is_open r then task_sent t r.state else t

abbrev pub process_after_send : Tasks → ProcessState → ProcessState
process_after_send t r = if_open r (with_state r (sends_task t r.state))

abbrev pub tasks_after_receive : ℕ → Tasks → ProcessState → Tasks
tasks_after_receive e t r = if is_open_in e r then task_received t r.state else t

abbrev pub process_after_receive : ℕ → Tasks → ProcessState → ProcessState
process_after_receive e t r = if is_open_in e r then with_state r (receives_task t r.state) else r

abbrev pub process_after_settle : Tasks → ProcessState → ProcessState
process_after_settle t r = if_open r (with_state r (settled t r.state))

-- With the next epoch comes an opening.
abbrev pub tasks_after_reopen : Tasks → ProcessState → Tasks
tasks_after_reopen t r = if is_open r && can_reopen r then record t { opening = true } else t
