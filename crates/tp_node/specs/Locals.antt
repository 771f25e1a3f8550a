-- A node's own state: its tasks, its open actions, the messages sent and received, and whether termination was announced to it.
-- What is pending is counted over the tasks and the actions.
use Rattle.std.specs.{Coded.{Coded, code_by, coded×, coded_ℕ, coded_bool}, Prelude.{ℕ, ℤ, ◌+◌, ◌≡◌, ◌==◌, List, [], ◌∷◌, Bool, false, not}}
use Rattle.std.specs.Prelude.{IsTrue, Option, Some, None, is_some, if◌then◌else◌, refl}
use Rattle.tp_base.specs.{Checks.Check, declared.Refusal.{Refusal, TheVariants.{TaskKnown, WrongLife, Inactive, ActionKnown, NoAction}}}
use Rattle.tp_base.specs.declared.{Refusal.TheVariants.HistoryFull, TaskId.TaskId, limits.TheConstants.MAX_STEPS}
use Rattle.tp_monitor.specs.{Monitors.{Monitored, is_idle}, declared.TaskpoolState.{TaskpoolState, TheVariants.{NotReady, Busy, Idle}}}
use Rattle.tp_monitor.specs.declared.{TaskpoolState.TheVariants.Terminated, numbers.TheConstants.MAX_ACTIONS}
use Rattle.tp_node.specs.Actions.{Actions, actions_code, first_actions, has_message, open_count}
use Rattle.tp_store.specs.{Codes.content_code, Content.{Content, nothing_stored, task_of, unfinished, is_unfinished, refusal_of_new}}
use Rattle.tp_store.specs.{Content.refusal_of_deliver, Sound.times_done, declared.life.Life.Life}
use Rattle.std.specs.FinSet as set

-- the content of the store, the open actions, the numbers of messages sent and received, and whether termination was announced
pub record LocalState (V : Type 0) : Type 0 where
  pub store : Content V
  pub actions : Actions
  pub sent : ℕ
  pub received : ℕ
  pub ended : Bool

-- how proofs distinguish the states
abbrev pub state_code : {V : Type 0} → Coded V → Coded (LocalState V)
state_code {V} value_code =
    code_by
    (Content V × (Actions × (ℕ × (ℕ × Bool))))
    (coded× (content_code value_code) (coded× actions_code (coded× coded_ℕ (coded× coded_ℕ coded_bool))))
    (λ l. (l.store, (l.actions, (l.sent, (l.received, l.ended)))))
    (λ p. record { store = p.0; actions = p.1.0; sent = p.1.1.0; received = p.1.1.1.0; ended = p.1.1.1.1 })
    (λ _. refl)

-- The monitor counts these numbers of unfinished tasks and open actions, including the opening one while it is open.
pub record IsCounted (m : Monitored) (unfinished opened opening : ℕ) : Type 0 where
  pub tasks : m.numbers.tasks ≡ unfinished
  pub actions : m.numbers.actions ≡ opened
  pub first : m.numbers.opening ≡ opening

-- the life of a task that is not done
abbrev pub is_live : Option Life → Bool
is_live None = false
is_live (Some life) = is_unfinished life

module _ {V : Type 0} where
  -- There are no tasks, and only the opening action is open.
  abbrev pub first_state : LocalState V
  first_state = record { store = nothing_stored; actions = first_actions; sent = 0; received = 0; ended = false }

  -- how many tasks are not done and how many actions are open, together
  abbrev pub pending_here : LocalState V → ℕ
  pending_here l = unfinished l.store + open_count l.actions

  -- the state of the pool at the node
  abbrev pub standing : LocalState V → TaskpoolState
  standing l = if l.ended then Terminated else (if l.actions.opening then NotReady else (if pending_here l == 0 then Idle else Busy))

  -- ---- the checks of each call, in order
  -- the node is inactive
  abbrev pub is_inactive : LocalState V → Bool
  is_inactive l = pending_here l == 0

  -- A task is inserted at an active node, if its store has room for one more.
  abbrev pub refusal_of_new_task : LocalState V → Option Refusal
  refusal_of_new_task l = if is_inactive l then Some Inactive else refusal_of_new l.store

  -- A task is inserted once.
  abbrev pub refusal_of_insertion : LocalState V → TaskId → Option Refusal
  refusal_of_insertion l t = if is_some (task_of l.store t) then Some TaskKnown else refusal_of_new_task l

  -- The store says what a known task is refused for.
  abbrev pub refusal_of_delivery : LocalState V → TaskId → ℕ → ℕ → Option Refusal
  refusal_of_delivery l t arity slot =
      if is_some (task_of l.store t) then refusal_of_deliver l.store t arity slot else refusal_of_new_task l

  -- An inactive node sends nothing.
  abbrev pub send_checks : LocalState V → List Check
  send_checks l = (is_inactive l, Inactive) ∷ (l.sent == MAX_STEPS, HistoryFull MAX_STEPS) ∷ []

  -- An inactive node receives too, and a message's action opens once. If two limits would be passed, the refusal names that of
  -- received messages.
  abbrev pub receive_checks : LocalState V → ℕ → List Check
  receive_checks l message =
      (l.ended, WrongLife)
      ∷ (has_message l.actions message, ActionKnown)
      ∷ (l.received == MAX_STEPS, HistoryFull MAX_STEPS)
      ∷ (open_count l.actions == MAX_ACTIONS, HistoryFull MAX_ACTIONS)
      ∷ []

  -- A message's action that is open can be closed.
  abbrev pub end_checks : LocalState V → ℕ → List Check
  end_checks l message = (not (has_message l.actions message), NoAction) ∷ []

  -- A named action opens at an active node, if it is not open.
  abbrev pub open_checks : LocalState V → ℕ → List Check
  open_checks l action =
      (set.contains l.actions.named action, ActionKnown)
      ∷ (is_inactive l, Inactive)
      ∷ (open_count l.actions == MAX_ACTIONS, HistoryFull MAX_ACTIONS)
      ∷ []

  -- A named action that is open can be closed.
  abbrev pub close_checks : LocalState V → ℕ → List Check
  close_checks l action = (not (set.contains l.actions.named action), NoAction) ∷ []

  -- The opening action closes once.
  abbrev pub ready_checks : LocalState V → List Check
  ready_checks l = (not l.actions.opening, NoAction) ∷ []

  -- Termination is announced to an idle node.
  abbrev pub finish_checks : LocalState V → List Check
  finish_checks l = (not (is_idle (standing l)), WrongLife) ∷ []

  -- the state of a node, from its monitor, the content of its store and its open actions
  abbrev pub state_of : Monitored → Content V → Actions → LocalState V
  state_of m store actions =
      record { store = store; actions = actions; sent = m.numbers.sent; received = m.numbers.received; ended = m.announced }

-- values are lists of numbers
abbrev pub Numbers : Type 0
Numbers = List ℤ

-- Each task that was ever inserted is done, and has exactly one result.
abbrev pub EachOnce : Content Numbers → Type 0
EachOnce c = (t : TaskId) → IsTrue (is_some (task_of c t)) → times_done c t ≡ 1
