-- The calls of a team: for which reasons each is refused, in their order, and what it does.
use Rattle.std.specs.{Option.is_some, Prelude.{ℕ, ◌+◌, ◌-◌, ◌≡◌, ◌≤◌, ◌<◌, ◌==◌, ◌&&◌, ◌||◌, ◌⊎◌, ◌↔◌, List, [], ◌∷◌, Bool, true, false}}
use Rattle.std.specs.Prelude.{length, Option, Some, None, IsTrue, IsSome, IfSome, IfNone, nat_lt, nat_le, if◌then◌else◌}
use Rattle.tp_base.specs.declared.refusal.Refusal.{Refusal}
use Rattle.tp_dag.specs.{Calls.{IsDispatched, IsReported}, Describing.{Graph, IsFirstFault}, State.{PoolState, running_tasks}}
use Rattle.tp_team.specs.State.{in_turns, left, signalled_by, HasReady, HasFinished, HasEnded, Settles}
use Rattle.tp_team.specs.declared.{limits.TheConstants.MAX_THREADS, refusal.{Fault.Fault, TeamRefusal.TeamRefusal}, state.State.State}
use Rattle.tp_team.specs.declared.turn.{Arrival.Arrival, Reply.Reply, Turn.Turn}
use Rattle.tp_base.specs.declared.refusal.Refusal.TheVariants as refusal
use Rattle.tp_base.specs.Checks as base
use Rattle.tp_dag.specs.Calls as dag
use Rattle.tp_dag.specs.Describing as graph
use Rattle.tp_team.specs.declared.refusal.TeamRefusal.TheVariants as team
use Rattle.tp_team.specs.declared.turn.Turn.TheVariants as turn

-- ---- checks: a call is refused for the first one that is true
abbrev pub Check : Type 0
Check = Bool × TeamRefusal

abbrev pub first : List Check → Option TeamRefusal
first [] = None
first (c ∷ cs) = if c.0 then Some c.1 else first cs

abbrev pub of_pool : List base.Check → List Check
of_pool [] = []
of_pool (c ∷ cs) = (c.0, team.Pool c.1) ∷ of_pool cs

abbrev pub fault_check : Option Fault → List Check → List Check
fault_check None rest = rest
fault_check (Some f) rest = (true, f.refusal) ∷ []

-- a turn has not returned, or a task runs
abbrev pub is_busy : State → Bool
is_busy a = nat_lt 0 (in_turns a.waiting) || nat_lt 0 (running_tasks a.pool)

abbrev pub has_finished : State → Bool
has_finished a = a.pool.started && dag.is_over a.pool

-- The checks of each call. The last ones are the pool's.
abbrev pub describe_checks : Graph → State → List Check
describe_checks g a = fault_check a.fault (of_pool (graph.describe_checks g a.pool))

abbrev pub record_checks : State → List Check
record_checks a = fault_check a.fault ((is_busy a, team.Running) ∷ (a.pool.started, team.Pool refusal.WrongLife) ∷ [])

abbrev pub start_checks : State → ℕ → List Check → List Check
start_checks a threads pool =
    fault_check a.fault
    ((a.pool.started && is_busy a, team.Running)
    ∷ (has_finished a, team.Pool refusal.Ended)
    ∷ (a.pool.started, team.Pool refusal.WrongLife)
    ∷ (threads == 0, team.NoThread) ∷ pool)

abbrev pub again_checks : State → List Check → List Check
again_checks a pool = fault_check a.fault ((is_busy a, team.Running) ∷ pool)

-- a turn has not returned, or a task runs and there is no fault
abbrev pub may_have_bodies : State → Bool
may_have_bodies a = if is_some a.fault then nat_lt 0 (in_turns a.waiting) else is_busy a

abbrev pub reset_checks : State → List Check → List Check
reset_checks a pool = (may_have_bodies a, team.Running) ∷ pool

abbrev pub spawn_checks : State → List Check → List Check
spawn_checks a pool = fault_check a.fault ((has_finished a, team.Pool refusal.Ended) ∷ pool)

-- Why a whole graph is refused, with the number of a task: a check of the call, the first fault of the graph, or out of memory.
abbrev pub IsGraphRefusal : Graph → State → TeamRefusal → ℕ → Type 0
IsGraphRefusal g a r t =
    (first (describe_checks g a) ≡ Some r)
    ⊎ ((fault : Refusal) × ((r ≡ team.Pool fault) × IsFirstFault g a.pool fault t))
    ⊎ (r ≡ team.Pool refusal.NoMemory)

-- ---- what the calls do
abbrev pub with_pool : PoolState → State → State
with_pool pool a = record a { pool = pool }

abbrev pub opened : Bool → ℕ → State
opened traced processors = record {
  pool = record { started = false; grown = false; kept = if traced then Some [] else None; tasks = []; inputs = [] };
  processors = processors;
  threads = 0;
  waiting = record { spinning = 0; sleeping = 0; signalled = 0 };
  fault = None;
}

-- the graph, as if its tasks and inputs were added in order
abbrev pub with_graph : Graph → State → State
with_graph g a = with_pool (graph.described g (length g.offsets - 1) a.pool) a

-- `again`, before which there is no fault, and `reset`
abbrev pub repeated : State → State
repeated a = record a { pool = dag.as_described a.pool; threads = 0; fault = None }

-- The pool changes so, and then as many sleeping threads are signalled as have to be.
pub record Changes (Change : PoolState → PoolState → Type 0) (old new : State) (signals : ℕ) : Type 0 where
  pub pool : PoolState
  pub change : Change old.pool pool
  pub settles : Settles (with_pool pool old) new signals

pub record Starts (threads : ℕ) (old new : State) (signals : ℕ) : Type 0 where
  pub all : signals ≡ old.waiting.sleeping
  pub becomes : new ≡ record old {
    pool = record old.pool { started = true };
    threads = threads;
    waiting = signalled_by signals old.waiting;
  }

-- The first fault stays, and a run that has finished cannot be stopped.
abbrev pub stopped_by : (ended : Bool) → Option ℕ → State → State
stopped_by true task a = a
stopped_by false task a = record a { fault = Some (record { refusal = team.Stopped; task = task }) }

pub record Stops (task : Option ℕ) (old new : State) (signals : ℕ) : Type 0 where
  pub ended : Bool
  pub says_ended : IsTrue ended ↔ HasEnded old
  pub settles : Settles (stopped_by ended task old) new signals

-- ---- turns
abbrev pub came : Arrival → State → State
came arrival a = record a { waiting = left arrival a.waiting }

-- A turn reports a task. Once there is a fault, nothing is reported; a task that does not run is a fault.
pub record ReportsTask (t : ℕ) (old new : State) : Type 0 where
  pub ended : IsSome old.fault → new ≡ old
  pub wrong : old.fault ≡ None
      → IfSome (base.first_refusal (dag.done_checks old.pool t))
      (λ r. new ≡ record old { fault = Some (record { refusal = team.Pool r; task = Some t }) })
  pub done : old.fault ≡ None
      → IfNone (base.first_refusal (dag.done_checks old.pool t))
      ((pool : PoolState) × IsReported t old.pool pool × (new ≡ with_pool pool old))

abbrev pub Reports : Option ℕ → State → State → Type 0
Reports None old new = new ≡ old
Reports (Some t) old new = ReportsTask t old new

-- A ready task of the lowest class runs.
pub record Runs (t : ℕ) (old new : State) : Type 0 where
  pub sound : old.fault ≡ None
  pub started : IsTrue old.pool.started
  pub pool : PoolState
  pub dispatched : IsDispatched t old.pool pool
  pub becomes : new ≡ with_pool pool old

-- All tasks are done.
pub record Leaves (old new : State) : Type 0 where
  pub sound : old.fault ≡ None
  pub finished : HasFinished old
  pub same : new ≡ old

-- There is no fault, and no run is on; or one is, in which no task is ready and not all are done.
pub record HasToWait (a : State) : Type 0 where
  pub sound : a.fault ≡ None
  pub none_ready : HasReady a → ⊥
  pub some_left : HasFinished a → ⊥

-- A thread spins as long as it has polls left, if there is a processor for each thread.
abbrev pub may_spin : ℕ → State → Bool
may_spin polls a = nat_lt 0 polls && nat_le a.threads a.processors

pub record Spins (polls : ℕ) (old new : State) : Type 0 where
  pub waits : HasToWait old
  pub room : in_turns old.waiting < MAX_THREADS
  pub may : IsTrue (may_spin polls old)
  pub becomes : new ≡ record old { waiting = record old.waiting { spinning = old.waiting.spinning + 1 } }

pub record Sleeps (polls : ℕ) (old new : State) : Type 0 where
  pub waits : HasToWait old
  pub room : in_turns old.waiting < MAX_THREADS
  pub may : may_spin polls old ≡ false
  pub becomes : new ≡ record old { waiting = record old.waiting { sleeping = old.waiting.sleeping + 1 } }

-- There is no room for one more thread that waits. It is refused, and the team goes on.
pub record IsCrowded (f : Fault) (old new : State) : Type 0 where
  pub waits : HasToWait old
  pub full : MAX_THREADS ≤ in_turns old.waiting
  pub says : f ≡ record { refusal = team.Pool (refusal.HistoryFull MAX_THREADS); task = None }
  pub same : new ≡ old

-- What a turn decides, and the state that it leaves but for signals.
abbrev pub Decides : ℕ → Turn → State → State → Type 0
Decides polls (turn.Run t) old new = Runs t old new
Decides polls turn.Spin old new = Spins polls old new
Decides polls turn.Sleep old new = Sleeps polls old new
Decides polls turn.Over old new = Leaves old new
Decides polls (turn.Refused f) old new = ((old.fault ≡ Some f) × (new ≡ old)) ⊎ IsCrowded f old new

-- A turn: the thread comes back, reports its task, and the turn returns what it is to do next.
pub record TakesTurn (arrival : Arrival) (done : Option ℕ) (polls : ℕ) (old new : State) (reply : Reply) : Type 0 where
  pub reported : State
  pub reports : Reports done (came arrival old) reported
  pub decided : State
  pub decides : Decides polls reply.turn reported decided
  pub settles : Settles decided new reply.signals
