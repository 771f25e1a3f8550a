-- What the exported calls on the tasks of one process return, and what they do to the tasks and to the process.
use Rattle.gerfmuod.specs.Wire.{refused_as, read, IsKept}
use Rattle.std.specs.Prelude.{ℕ, ◌≡◌, Bool, true, false, Option, Some, Result, Ok, Err}
use Rattle.tp_process.specs.declared.{outcome.Refusal.Refusal, process.Process.Process, task_counts.TaskCounts.TaskCounts}
use Rattle.tp_process.specs.State.{ProcessState}
pub use Rattle.tp_process.specs.Tasks.{Tasks, added, added_due, began, begin_refusal, completed, done_refusal, dropped, give_refusal, given}
pub use Rattle.tp_process.specs.Tasks.{is_idle, make_refusal, new_tasks, opening_refusal}
pub use Rattle.tp_process.specs.Tasks.{process_after_receive, process_after_send, process_after_settle}
pub use Rattle.tp_process.specs.Tasks.{read_tasks, receive_task_refusal, send_task_refusal, settle_result, tasks_after_receive}
pub use Rattle.tp_process.specs.Tasks.{tasks_after_reopen, tasks_after_send, without_opening}

-- A call on the tasks alone: the number of its refusal, and the tasks after it.
pub record IsTasksCall (refusal : Tasks → Option Refusal) (after : Tasks → Tasks) (old : TaskCounts) (number : ℕ) (new : TaskCounts)
    : Type 0 where
  pub refused : number ≡ refused_as (refusal (read_tasks old))
  pub state : read_tasks new ≡ after (read_tasks old)
  pub kept : IsKept number old new

-- A call on the tasks and on the process.
pub record IsJointCall (refusal : Tasks → ProcessState → Option Refusal) (tasks_after : Tasks → ProcessState → Tasks)
    (process_after : Tasks → ProcessState → ProcessState) (old : TaskCounts) (process : Process) (number : ℕ) (new : TaskCounts)
    (after : Process) : Type 0 where
  pub refused : number ≡ refused_as (refusal (read_tasks old) (read process))
  pub tasks : read_tasks new ≡ tasks_after (read_tasks old) (read process)
  pub process_state : read after ≡ process_after (read_tasks old) (read process)
  pub kept : IsKept number old new
  pub process_kept : IsKept number process after

-- whether `settle` finished the work, or why it was refused
abbrev pub settled_as : Result Bool Refusal → ℕ
settled_as (Ok false) = 0
settled_as (Ok true) = 1
settled_as (Err e) = refused_as (Some e)
