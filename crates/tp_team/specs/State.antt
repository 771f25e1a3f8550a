-- A team: which threads wait, when it has ended, when a sleeping thread has to be signalled, and what holds between any two calls.
use Rattle.std.specs.Prelude.{ℕ, ◌+◌, ◌-◌, ◌≡◌, ◌≤◌, ◌==◌, ◌&&◌, ◌↔◌, ◌⊎◌, Bool, true, false, IsTrue, IsSome, nat_lt, if◌then◌else◌}
use Rattle.tp_dag.specs.State.{IsReady, IsOver}
use Rattle.tp_team.specs.declared.{limits.TheConstants.MAX_THREADS, state.State.State, turn.Arrival.Arrival, waiting.Waiting.Waiting}
use Rattle.tp_team.specs.declared.turn.Arrival.TheVariants as arrival

-- ---- threads in turns that have not returned
abbrev pub in_turns : Waiting → ℕ
in_turns w = w.spinning + w.sleeping + w.signalled

-- Without the thread that comes back. One that slept was signalled, if any was; else the condition variable woke it without a signal.
abbrev pub left : Arrival → Waiting → Waiting
left arrival.New w = w
left arrival.Spun w = record w { spinning = w.spinning - 1 }
left arrival.Woken w = if w.signalled == 0 then record w { sleeping = w.sleeping - 1 } else record w { signalled = w.signalled - 1 }

abbrev pub signalled_by : ℕ → Waiting → Waiting
signalled_by n w = record w { sleeping = w.sleeping - n; signalled = w.signalled + n }

-- How many sleeping threads have to be signalled: all, if the team has ended; one, if a task is ready and no thread is on its way to it.
abbrev pub needed : (ended ready : Bool) → Waiting → ℕ
needed true ready w = w.sleeping
needed false ready w = if ready && (nat_lt 0 w.sleeping && (w.spinning + w.signalled == 0)) then 1 else 0

-- ---- the team
-- A run is on, and a task is ready in it.
pub record HasReady (a : State) : Type 0 where
  pub started : IsTrue a.pool.started
  pub task : ℕ
  pub ready : IsReady task a.pool

-- All tasks of a run are done.
pub record HasFinished (a : State) : Type 0 where
  pub started : IsTrue a.pool.started
  pub over : IsOver a.pool

-- No turn waits any more: there is a fault, or the run has finished.
abbrev pub HasEnded : State → Type 0
HasEnded a = IsSome a.fault ⊎ HasFinished a

-- The last step of each call: as many sleeping threads are signalled as have to be; nothing else changes.
pub record Settles (old new : State) (signals : ℕ) : Type 0 where
  pub ended : Bool
  pub says_ended : IsTrue ended ↔ HasEnded old
  pub ready : Bool
  pub says_ready : IsTrue ready ↔ HasReady old
  pub number : signals ≡ needed ended ready old.waiting
  pub becomes : new ≡ record old { waiting = signalled_by signals old.waiting }

-- ---- what holds between any two calls
pub record LosesNoWakeUp (a : State) : Type 0 where
  -- if a task is ready and a thread sleeps, then some thread spins or was signalled
  pub wakes : HasReady a → 1 ≤ a.waiting.sleeping → 1 ≤ a.waiting.spinning + a.waiting.signalled
  -- once the team has ended, each sleeping thread was signalled
  pub ends : HasEnded a → a.waiting.sleeping ≡ 0
  pub few : in_turns a.waiting ≤ MAX_THREADS
