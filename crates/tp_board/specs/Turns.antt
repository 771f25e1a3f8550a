-- A node's control turn: which step it makes, and its result.
use Rattle.std.specs.{List.find, Prelude.{ℕ, ◌+◌, ◌*◌, ◌≡◌, ◌==◌, ◌&&◌, List, [], ◌∷◌, ◌++◌, Bool, true, false, IsTrue, IsFalse, Some}}
use Rattle.std.specs.Prelude.{None, is_some, is_none, if◌then◌else◌, Result, Ok, Err, IfErr, IfOk, IsOkAnd, OnErr, OnOk, nat_lt}
use Rattle.tp_base.specs.{Checks.{Check, first_refusal}, History.Event, declared.refusal.Refusal.{Refusal, TheVariants.HistoryFull}}
use Rattle.tp_base.specs.declared.{refusal.Refusal.TheVariants.{NoMemory, NotIdle}, step.Step.{Step, TheVariants.{Start, Down, Give, Up}}}
use Rattle.tp_base.specs.declared.step.Step.TheVariants.{Judge}
use Rattle.tp_board.specs.{Numbers.{event, node_at}, States.{IsCheckedFor, BoardState, IsAtPiece, full_check, with_event}}
use Rattle.tp_board.specs.declared.turn.Turn.{Turn, TheVariants.{Idle, Moved, Over}}
use Rattle.tp_wave.specs.{ControlChecks.control_checks, Generations.{present, present_events}, Machine.{pending_at, steps_of}}
use Rattle.tp_wave.specs.{Steps.is_judge, Sums.judgement}

-- ---- which step
-- the part of any node in a wave: it takes its token, then the sums of its lower and of its higher child, and then gives
abbrev pub wave_steps : ℕ → List Step
wave_steps i = Down (node_at i) ∷ Up (node_at (2 * i + 1)) ∷ Up (node_at (2 * i + 2)) ∷ Give (node_at i) ∷ []

-- the control steps of node i, in the order in which it tries them; the root alone judges and starts the waves
abbrev pub turn_steps : ℕ → List Step
turn_steps i = if i == 0 then Judge ∷ Start ∷ wave_steps i else wave_steps i

-- An active node starts no wave, and gives nothing.
abbrev pub needs_idle : Step → Bool
needs_idle Start = true
needs_idle (Give i) = true
needs_idle _ = false

-- why node i, of n, may be refused a control step after these events
abbrev pub turn_checks : ℕ → ℕ → List Event → Step → List Check
turn_checks n i h s =
    control_checks n (present (steps_of h)) s ++ (needs_idle s && nat_lt 0 (pending_at i (present_events h)), NotIdle) ∷ []

-- the node may make the step
abbrev pub may_make : ℕ → ℕ → List Event → Step → Bool
may_make n i h s = is_none (first_refusal (turn_checks n i h s))

-- ---- the effect of the step
-- a control step, recorded for the node that it names, or for the root
abbrev pub control_event : Step → Event
control_event (Down i) = (i, Down i)
control_event (Give i) = (i, Give i)
control_event (Up i) = (i, Up i)
control_event s = event 0 s

-- The step judges, and detects termination.
abbrev pub ends : ℕ → List Event → Step → Bool
ends n h s = is_judge s && is_some (judgement n (present (steps_of h)))

-- the result of a turn that made a step, given whether the step detected termination
abbrev pub MovesOrEnds : {K : Type 0} → Bool → Turn K → Type 0
MovesOrEnds ended Idle = ⊥
MovesOrEnds ended Moved = IsFalse ended
MovesOrEnds ended (Over e) = IsTrue ended

-- ---- a turn among some of the control steps
-- the step was made
pub record Makes {K : Type 0} (n : ℕ) (s : Step) (old new : BoardState) (result : Result (Turn K) Refusal) : Type 0 where
  pub event : OnOk result (new ≡ with_event (control_event s) old)
  pub answer : IfOk result (MovesOrEnds (ends n old.history s))
  pub refusal : IsCheckedFor (full_check 1 old ∷ []) 1 old result
  pub piece : IfErr result (IsAtPiece old)
  pub refused : OnErr result (new ≡ old)

-- The first of these steps that node i may make was made, or there is none.
pub record MakesFirst {K : Type 0} (n i : ℕ) (ss : List Step) (old new : BoardState) (result : Result (Turn K) Refusal) : Type 0 where
  pub none : find (may_make n i old.history) ss ≡ None → (result ≡ Ok Idle) × (new ≡ old)
  pub some : (s : Step) → find (may_make n i old.history) ss ≡ Some s → Makes n s old new result

-- the refusals for lack of room, which come after all others
abbrev pub is_for_room : Refusal → Bool
is_for_room (HistoryFull length) = true
is_for_room NoMemory = true
is_for_room _ = false

-- the result of trying a step, if its result shows whether it detected termination: a step that may not be made now is none
abbrev pub ComesTo : {A K : Type 0} → (A → Bool) → Result A Refusal → Result (Turn K) Refusal → Type 0
ComesTo ended (Ok x) result = IsOkAnd result (MovesOrEnds (ended x))
ComesTo ended (Err e) result = result ≡ (if is_for_room e then Err e else Ok Idle)
