-- What contracts see of a monitor, the state that follows from it, the checks of each call in order, and how a call changes the
-- counters.
use Rattle.std.specs.Prelude.{ℕ, ℤ, pos, ◌+◌, ◌-◌, ◌+ℤ◌, ◌≡◌, ◌==◌, ◌&&◌, ◌≤◌, int_lt, unsigned_abs, List, [], ◌∷◌, ◌++◌, Bool, true, false}
use Rattle.std.specs.Prelude.{not, IsTrue, Option, Some, None, is_some, if◌then◌else◌}
use Rattle.tp_base.specs.{Checks.Check, declared.{PoolId.PoolId, Refusal.TheVariants.{NoTask, WrongLife, Inactive, NoAction, HistoryFull}}}
use Rattle.tp_base.specs.declared.{Refusal.TheVariants.{StoreFull, NoPool, PoolKnown}, limits.TheConstants.{MAX_LIVE_TASKS, MAX_STEPS}}
use Rattle.tp_monitor.specs.declared.{numbers.{MonitorNumbers.MonitorNumbers, TheConstants.MAX_ACTIONS}, state.TaskpoolState.TaskpoolState}
use Rattle.tp_monitor.specs.declared.state.TaskpoolState.TheVariants.{NotMonitored, NotReady, Busy, Idle, Terminated}

-- What contracts see of a monitor: the pool that it monitors, if any, its counters, and whether termination was announced.
pub record Monitored : Type 0 where
  pub pool : Option PoolId
  pub numbers : MonitorNumbers
  pub announced : Bool

-- Each counter is within its limit, and the opening action is one of the open ones.
pub record IsWithinLimits (n : MonitorNumbers) : Type 0 where
  pub tasks : n.tasks ≤ MAX_LIVE_TASKS
  pub actions : n.actions ≤ MAX_ACTIONS
  pub opening : n.opening ≤ 1
  pub counted : n.opening ≤ n.actions
  pub sent : n.sent ≤ MAX_STEPS
  pub received : n.received ≤ MAX_STEPS

-- unfinished tasks and open actions
abbrev pub monitored_pending : MonitorNumbers → ℕ
monitored_pending n = n.tasks + n.actions

-- Each counter is within its limit, and nothing is pending once termination was announced.
pub record IsMonitor (m : Monitored) : Type 0 where
  pub limits : IsWithinLimits m.numbers
  pub over : IsTrue m.announced → monitored_pending m.numbers ≡ 0

-- the state of a monitored pool
abbrev pub standing : Monitored → TaskpoolState
standing m =
    if m.announced then Terminated
    else (if m.numbers.opening == 1 then NotReady else (if monitored_pending m.numbers == 0 then Idle else Busy))

-- whether this is the pool that is monitored
abbrev pub is_pool : PoolId → Option PoolId → Bool
is_pool pool None = false
is_pool pool (Some p) = p.0 == pool.0

-- the state of a pool at a monitor
abbrev pub state_of : Monitored → PoolId → TaskpoolState
state_of m pool = if is_pool pool m.pool then standing m else NotMonitored

-- the state Idle, and no other
abbrev pub is_idle : TaskpoolState → Bool
is_idle Idle = true
is_idle _ = false

-- the state Terminated, and no other
abbrev pub is_terminated : TaskpoolState → Bool
is_terminated Terminated = true
is_terminated _ = false

-- the numbers of a pool that is monitored
abbrev pub numbers_of : Monitored → PoolId → Option MonitorNumbers
numbers_of m pool = if is_pool pool m.pool then Some m.numbers else None

-- nothing is counted
abbrev pub no_numbers : MonitorNumbers
no_numbers = record { tasks = 0; actions = 0; opening = 0; sent = 0; received = 0 }

-- a monitor that monitors no pool
abbrev pub no_pool : Monitored
no_pool = record { pool = None; numbers = no_numbers; announced = false }

-- A pool begins with its opening action.
abbrev pub first_numbers : MonitorNumbers
first_numbers = record { tasks = 0; actions = 1; opening = 1; sent = 0; received = 0 }

-- ---- checks

-- the node is inactive
abbrev pub is_inactive : MonitorNumbers → Bool
is_inactive n = monitored_pending n == 0

-- the number would fall below 0
abbrev pub falls_below : ℕ → ℤ → Bool
falls_below n delta = int_lt (pos n +ℤ delta) (pos 0)

-- the number would exceed its limit
abbrev pub passes : ℕ → ℕ → ℤ → Bool
passes limit n delta = int_lt (pos limit) (pos n +ℤ delta)

-- One pool is monitored at a time.
abbrev pub monitor_checks : Monitored → List Check
monitor_checks m = (is_some m.pool, PoolKnown) ∷ []

-- Another pool is monitored, or none.
abbrev pub pool_checks : Monitored → PoolId → List Check
pool_checks m pool = (not (is_pool pool m.pool), NoPool) ∷ []

-- A pool is released once its termination was announced.
abbrev pub unmonitor_checks : Monitored → PoolId → List Check
unmonitor_checks m pool = pool_checks m pool ++ (not (is_terminated (standing m)), WrongLife) ∷ []

-- A pool is reopened once its termination was announced.
abbrev pub reopen_checks : Monitored → PoolId → List Check
reopen_checks m pool = pool_checks m pool ++ (not (is_terminated (standing m)), WrongLife) ∷ []

-- Each call that counts begins with these.
abbrev pub running_checks : Monitored → PoolId → List Check
running_checks m pool = pool_checks m pool ++ (m.announced, WrongLife) ∷ []

-- The opening action closes once.
abbrev pub ready_checks : Monitored → PoolId → List Check
ready_checks m pool = running_checks m pool ++ (m.numbers.opening == 0, NoAction) ∷ []

-- Nothing is added at an inactive node.
abbrev pub change_checks : Monitored → PoolId → ℤ → List Check
change_checks m pool delta = running_checks m pool ++ (int_lt (pos 0) delta && is_inactive m.numbers, Inactive) ∷ []

-- There are fewer tasks than `delta` removes, or there would be too many.
abbrev pub tasks_checks : Monitored → PoolId → ℤ → List Check
tasks_checks m pool delta =
    change_checks m pool delta
    ++ (falls_below m.numbers.tasks delta, NoTask)
    ∷ (passes MAX_LIVE_TASKS m.numbers.tasks delta, StoreFull)
    ∷ []

-- A negative `delta` does not count the opening action.
abbrev pub actions_checks : Monitored → PoolId → ℤ → List Check
actions_checks m pool delta =
    change_checks m pool delta
    ++ (falls_below (m.numbers.actions - m.numbers.opening) delta, NoAction)
    ∷ (passes MAX_ACTIONS m.numbers.actions delta, HistoryFull MAX_ACTIONS)
    ∷ []

-- An inactive node sends nothing.
abbrev pub send_checks : Monitored → PoolId → List Check
send_checks m pool =
    running_checks m pool
    ++ (is_inactive m.numbers, Inactive)
    ∷ (m.numbers.sent == MAX_STEPS, HistoryFull MAX_STEPS)
    ∷ []

-- An inactive node receives too. If two limits would be passed, the refusal names that of received messages.
abbrev pub receive_checks : Monitored → PoolId → List Check
receive_checks m pool =
    running_checks m pool
    ++ (m.numbers.received == MAX_STEPS, HistoryFull MAX_STEPS)
    ∷ (m.numbers.actions == MAX_ACTIONS, HistoryFull MAX_ACTIONS)
    ∷ []

-- No action is open, or only the opening one.
abbrev pub message_end_checks : Monitored → PoolId → List Check
message_end_checks m pool = running_checks m pool ++ (m.numbers.actions == m.numbers.opening, NoAction) ∷ []

-- Termination is announced to an idle node.
abbrev pub end_checks : Monitored → PoolId → List Check
end_checks m pool = pool_checks m pool ++ (not (is_idle (standing m)), WrongLife) ∷ []

-- ---- how a call that passes its checks changes the counters

-- the number changed by `delta`
abbrev pub moved : ℕ → ℤ → ℕ
moved n delta = unsigned_abs (pos n +ℤ delta)

-- The opening action closes.
abbrev pub ready_numbers : MonitorNumbers → MonitorNumbers
ready_numbers n = record n { actions = n.actions - 1; opening = 0 }

-- The number of tasks changes by `delta`.
abbrev pub with_tasks : ℤ → MonitorNumbers → MonitorNumbers
with_tasks delta n = record n { tasks = moved n.tasks delta }

-- The number of open actions changes by `delta`.
abbrev pub with_actions : ℤ → MonitorNumbers → MonitorNumbers
with_actions delta n = record n { actions = moved n.actions delta }

-- A message is sent.
abbrev pub sent_numbers : MonitorNumbers → MonitorNumbers
sent_numbers n = record n { sent = n.sent + 1 }

-- A received message opens its action.
abbrev pub received_numbers : MonitorNumbers → MonitorNumbers
received_numbers n = record n { received = n.received + 1; actions = n.actions + 1 }

-- The action of a received message closes.
abbrev pub message_ended_numbers : MonitorNumbers → MonitorNumbers
message_ended_numbers n = record n { actions = n.actions - 1 }
