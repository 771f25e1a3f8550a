-- What follows from the contracts: a team is never stuck, it knows how many turns have not returned, it loses no wake-up, and it
-- dispatches each task of a run once.
use Rattle.std.specs.Prelude.{ℕ, ◌+◌, ◌≡◌, ◌≤◌, ◌==◌, List, [], ◌∷◌, Bool, false, Option, Some, IsTrue, IsFalse, slice_get, if◌then◌else◌}
use Rattle.tp_dag.specs.{Calls.{Becomes, one_more, one_less, with_spawned}, Describing.Graph, State.{Entry, IsAt}}
use Rattle.tp_team.specs.{Calls.{TakesTurn, Starts, Stops, Changes, opened, repeated, with_graph, with_pool}, State.{HasReady, HasEnded}}
use Rattle.tp_team.specs.{State.{LosesNoWakeUp, Settles, in_turns}, declared.{state.State.State, turn.{Arrival.Arrival, Reply.Reply}}}
use Rattle.tp_team.specs.declared.turn.Turn.{Turn}
use Rattle.tp_dag.specs.declared.entry.Stage.TheVariants as stage
use Rattle.tp_team.specs.declared.turn.Arrival.TheVariants as arrival
use Rattle.tp_team.specs.declared.turn.Turn.TheVariants as turn

-- A run is on and has not ended, no task runs, and no task waits for an input from outside.
pub record IsIdle (a : State) : Type 0 where
  pub started : IsTrue a.pool.started
  pub going : HasEnded a → ⊥
  pub none_runs : (t : ℕ) → IsAt stage.Running t a.pool → ⊥
  pub none_awaits : (t : ℕ) (x : Entry) → slice_get a.pool.tasks t ≡ Some x → x.outside ≡ 0

-- Then a task is ready, and some thread is on its way to it unless none sleeps.
pub record NeverStuck (a : State) : Type 0 where
  pub ready : IsIdle a → HasReady a
  pub awake : IsIdle a → 1 ≤ a.waiting.sleeping → 1 ≤ a.waiting.spinning + a.waiting.signalled

-- ---- sequences of calls
-- An accepted call, and what it returned. A refused call changes nothing.
pub data Call : Type 0 where
  Described : (graph : Graph) → Call
  Spawned : (class : ℕ) (inputs : List ℕ) (outside signals : ℕ) → Call
  -- `outside` and `release`
  Expected : (task signals : ℕ) → Call
  Released : (task signals : ℕ) → Call
  Started : (threads signals : ℕ) → Call
  Turned : (arrival : Arrival) (done : Option ℕ) (polls : ℕ) (reply : Reply) → Call
  Stopped : (task : Option ℕ) (signals : ℕ) → Call
  -- `again` and `reset`
  Repeated : Call

-- A thread that comes back waited.
abbrev pub HasWaited : Arrival → State → Type 0
HasWaited arrival.New a = Unit {0}
HasWaited arrival.Spun a = 1 ≤ a.waiting.spinning
HasWaited arrival.Woken a = 1 ≤ a.waiting.sleeping + a.waiting.signalled

-- What the call's contract says of the states before and after it. A graph is described before the start alone.
abbrev pub Does : Call → State → State → Type 0
Does (Described graph) a b = IsFalse a.pool.started × (b ≡ with_graph graph a)
Does (Spawned class inputs outside signals) a b = Settles (with_pool (with_spawned class inputs outside a.pool) a) b signals
Does (Expected task signals) a b = Changes (Becomes task one_more) a b signals
Does (Released task signals) a b = Changes (Becomes task one_less) a b signals
Does (Started threads signals) a b = Starts threads a b signals
Does (Turned arrival done polls reply) a b = HasWaited arrival a × TakesTurn arrival done polls a b reply
Does (Stopped task signals) a b = Stops task a b signals
Does Repeated a b = b ≡ repeated a

-- These calls, the newest first, lead to this state.
abbrev pub LeadTo : Bool → ℕ → List Call → State → Type 0
LeadTo traced processors [] b = b ≡ opened traced processors
LeadTo traced processors (c ∷ past) b = (a : State) × LeadTo traced processors past a × Does c a b

abbrev pub waits : Turn → ℕ
waits turn.Spin = 1
waits turn.Sleep = 1
waits (turn.Run t) = 0
waits turn.Over = 0
waits (turn.Refused f) = 0

abbrev pub returns : Arrival → ℕ
returns arrival.New = 0
returns arrival.Spun = 1
returns arrival.Woken = 1

-- how many turns made their thread wait
abbrev pub waited : List Call → ℕ
waited [] = 0
waited (Turned _ _ _ reply ∷ past) = waited past + waits reply.turn
waited (_ ∷ past) = waited past

-- how many threads came back after that
abbrev pub returned : List Call → ℕ
returned [] = 0
returned (Turned arrival _ _ _ ∷ past) = returned past + returns arrival
returned (_ ∷ past) = returned past

-- The threads that a team counts are those that turns made wait and that have not come back.
abbrev pub CountsThreads : Type 0
CountsThreads = (traced : Bool) (processors : ℕ) (calls : List Call) (a : State) → LeadTo traced processors calls a
    → in_turns a.waiting + returned calls ≡ waited calls

-- If a task is ready in a run, then no thread sleeps, or some thread spins or was signalled. Once the team has ended, each thread that
-- sleeps was signalled.
abbrev pub NeverLosesWakeUp : Type 0
NeverLosesWakeUp = (traced : Bool) (processors : ℕ) (calls : List Call) (a : State) → LeadTo traced processors calls a → LosesNoWakeUp a

abbrev pub runs : ℕ → Turn → Bool
runs t (turn.Run u) = u == t
runs t _ = false

-- how many turns of this run, which are those since the last `again` or `reset`, made their thread run task t
abbrev pub dispatches : ℕ → List Call → ℕ
dispatches t [] = 0
dispatches t (Repeated ∷ past) = 0
dispatches t (Turned _ _ _ reply ∷ past) = if runs t reply.turn then dispatches t past + 1 else dispatches t past
dispatches t (_ ∷ past) = dispatches t past

-- Within a run, no two turns make a thread run the same task.
abbrev pub DispatchesOnce : Type 0
DispatchesOnce = (traced : Bool) (processors : ℕ) (calls : List Call) (a : State) (t : ℕ) → LeadTo traced processors calls a
    → dispatches t calls ≤ 1
