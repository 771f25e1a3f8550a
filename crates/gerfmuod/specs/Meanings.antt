-- The name and the meaning of each refusal of the library, by its number.
use Rattle.gerfmuod.specs.Wire.{refused_as}
use Rattle.std.specs.Prelude.{ℕ, ◌==◌, List, codes, if◌then◌else◌, Option, Some, None}
use Rattle.tp_base.specs.{Refusals.{number_of, name_of}, declared.Refusal.Refusal}
use Rattle.tp_process.specs.declared.outcome.Refusal.{Refusal as ProcessRefusal}
use Rattle.tp_base.specs.declared.Refusal.TheVariants as pool
use Rattle.tp_process.specs.declared.outcome.Refusal.TheVariants as process
use Rattle.tp_team.specs.Refusals as numbers
use Rattle.tp_team.specs.declared.TeamRefusal.TheVariants as team

abbrev pub Texts : Type 0
Texts = Option (List ℕ × List ℕ)

-- the name and the meaning, if the number is that of this row, or else the texts of the rows below
abbrev row : ℕ → ℕ → List ℕ → List ℕ → Texts → Texts
row n number name meaning below = if n == number then Some (name, meaning) else below

-- the same of a refusal of a core or a task graph, whose name is that of `tp_base`
abbrev of_pool : ℕ → Refusal → List ℕ → Texts → Texts
of_pool n r = row n (number_of r) (name_of r)

-- the same of a refusal of a process
abbrev of_process : ℕ → ProcessRefusal → List ℕ → List ℕ → Texts → Texts
of_process n r = row n (refused_as (Some r))

abbrev unused : List ℕ
unused = codes "no call of this library returns it"

abbrev pub texts_of : ℕ → Texts
texts_of n =
    row n 0 (codes "Ok") (codes "the call was not refused")
    (of_pool n pool.NoNode (codes "there is no node of this number")
    (of_pool n pool.SameNode (codes "the sender and the receiver are one node")
    (of_pool n pool.TaskKnown (codes "a task of this number was inserted before")
    (of_pool n pool.NoTask (codes "there is no such task, or an input is not lower than its task")
    (of_pool n pool.WrongLife (codes "the task, the core or the graph is not in the state that the call needs")
    (of_pool n pool.Inactive (codes "no task is unfinished and no action is open at the node")
    (of_pool n pool.ActionKnown (codes "the action is open there")
    (of_pool n pool.NoAction (codes "the action is not open there")
    (of_pool n pool.MessageKnown (codes "a message of this number was sent before")
    (of_pool n pool.NoMessage (codes "no such message is in flight to that node")
    (of_pool n pool.NotIdle (codes "a task is unfinished, an action is open or a message is in flight")
    (of_pool n pool.NoToken (codes "the wave has not come so far, or has passed")
    (of_pool n pool.WaveOpen (codes "a wave is open, or has ended and is not judged")
    (of_pool n pool.WaveNotEnded (codes "no ended wave waits for judgement")
    (of_pool n pool.Ended (codes "termination was detected, or all tasks of the run are done")
    (of_pool n (pool.HistoryFull 0) (codes "there is no room for more steps, or a number would be above its limit")
    (of_pool n pool.NoMemory (codes "an allocation failed")
    (of_pool n pool.SlotTaken unused
    (of_pool n pool.Stranger (codes "the message is of another generation")
    (of_pool n pool.Missing unused
    (of_pool n (pool.Stalled 0) unused
    (of_pool n pool.BodyFailed unused
    (of_pool n pool.StoreFull (codes "a counter of a core without a list of steps is at its limit")
    (of_pool n pool.NoPool (codes "the core or the graph is not open")
    (of_pool n pool.PoolKnown unused
    (of_pool n pool.BadSpec (codes "no such step, maker, call or class, or nodes, inputs or arrays are invalid")
    (row n 28 (codes "Busy") (codes "another call runs on the core, so the caller's lock is missing")
    (row n 29 (codes "NoMaker") (codes "the maker does not run or is not open at the node of the step")
    (row n (numbers.number_of team.NoThread) (codes "NoThread") (codes "a run needs a thread")
    (row n 65 (codes "NotStarted") (codes "the operating system started too few threads, and no body ran")
    (row n (numbers.number_of team.Stopped) (codes "Stopped") (codes "the graph was stopped, or a body failed")
    (row n (numbers.number_of team.Running) (codes "Running") (codes "a turn has not returned, or a task runs")
    (row n 68 (codes "NotWritten") (codes "the stream did not take the whole text")
    (row n 69 (codes "Different") (codes "the processes described different graphs")
    (of_process n process.Inactive (codes "NoWork") (codes "no piece of work is open at the process")
    (of_process n process.Full (codes "CountFull") (codes "a count or the epoch of the process is at its limit")
    (of_process n process.NotDue (codes "NotDue")
    (codes "the control message is for another process, of another wave, or was taken before")
    (of_process n process.NotYet (codes "NotYet") (codes "the message is of a later epoch, so keep it until the process has reopened")
    (of_process n process.Late (codes "Late") (codes "the message is of an older epoch")
    (of_process n process.NotEnded (codes "NotEnded")
    (codes "the process does not know the end of this epoch, or has not notified each child")
    (of_process n process.NotOpen (codes "NotOpen") (codes "the process is not open")
    (of_process n process.NoProcess (codes "NoProcess") (codes "the number of the process is not below the number of processes")
    (row n 109 (codes "Malformed") (codes "no control message has such a token")
    (of_process n process.Miscounted (codes "Miscounted")
    (codes "a message was sent uncounted, or its receipt was counted twice")
    (row n 111 (codes "Mismatched")
    (codes "the control message is from a process opened with another number of processes") None)))))))))))))))))))))))))))))))))))))))))))))
