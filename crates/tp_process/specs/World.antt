-- All processes of one epoch together, the messages and control messages between them, and the theorems about them.
use Rattle.std.specs.Prelude.{ℕ, zero, suc, ◌+◌, ◌-◌, ◌*◌, ◌^◌, ◌==◌, ◌&&◌, ◌≡◌, ◌<◌, ◌≤◌, ◌⊎◌, List, [], ◌∷◌, ◌++◌, Bool, true, false}
use Rattle.std.specs.Prelude.{IsTrue, IsFalse, length, nat_lt, if◌then◌else◌, Option, Some, None}
use Rattle.tp_process.specs.Calls.{blank, opened, closed, sent, can_send, received, can_receive, took, moved, is_due, is_for}
use Rattle.tp_process.specs.{State.EpochState, declared.{control_message.ControlMessage.ControlMessage, outcome.Next.Next}}
use Rattle.tp_process.specs.declared.outcome.Next.TheVariants.{Send, Again, Ended}

pub record World : Type 0 where
  -- the processes, by number
  pub at : ℕ → EpochState
  -- the number of messages under way to process j
  pub under_way : ℕ → ℕ
  -- every control message that was ever sent
  pub controls : List ControlMessage

-- what a process does
pub data Act : Type 0 where
  Opens : Act
  Closes : Act
  Sends : (to : ℕ) → Act
  Receives : Act
  Moves : Act

-- An event: a process does something, or a control message that was sent before comes: in any order, once, again or
-- never.
pub data Event : Type 0 where
  Does : (i : ℕ) → (a : Act) → Event
  Comes : (which : ℕ) → Event

-- the function f with the value x at i
abbrev pub put : {A : Type 0} → ℕ → A → (ℕ → A) → ℕ → A
put i x f j = if j == i then x else f j

abbrev pub posted : Next → List ControlMessage → List ControlMessage
posted (Send l) controls = l ∷ controls
posted _ controls = controls

-- Process i does something. It sends only what it can count, and receives only what is under way to it.
abbrev pub does : ℕ → World → ℕ → Act → World
does n w i Opens = record w { at = put i (opened (w.at i)) w.at }
does n w i Closes = record w { at = put i (closed (w.at i)) w.at }
does n w i (Sends j) =
    if can_send (w.at i) && nat_lt j n
    then record w { at = put i (sent (w.at i)) w.at; under_way = put j (w.under_way j + 1) w.under_way }
    else w
does n w i Receives =
    if can_receive (w.at i) && nat_lt 0 (w.under_way i)
    then record w { at = put i (received (w.at i)) w.at; under_way = put i (w.under_way i - 1) w.under_way }
    else w
does n w i Moves =
    record w { at = put i (moved (w.at i)).state w.at; controls = posted (moved (w.at i)).next w.controls }

abbrev pub control_at : List ControlMessage → ℕ → Option ControlMessage
control_at [] k = None
control_at (l ∷ ls) zero = Some l
control_at (l ∷ ls) (suc k) = control_at ls k

-- A control message comes to its destination.
abbrev pub came : ℕ → World → Option ControlMessage → World
came n w None = w
came n w (Some l) = if nat_lt l.to n then record w { at = put l.to (took l (w.at l.to)) w.at } else w

-- the world after an event of n processes
abbrev pub happens : ℕ → World → Event → World
happens n w (Does i a) = if nat_lt i n then does n w i a else w
happens n w (Comes k) = came n w (control_at w.controls k)

-- the world at the beginning of n processes
abbrev pub beginning : ℕ → World
beginning n = record { at = λ i. blank i n; under_way = λ j. 0; controls = [] }

-- the world after these events, the newest first
abbrev pub after : ℕ → List Event → World
after n [] = beginning n
after n (e ∷ past) = happens n (after n past) e

-- Terminated: no process has work, and no message is under way.
pub record IsQuiet (n : ℕ) (w : World) : Type 0 where
  pub idle : (i : ℕ) → i < n → (w.at i).pending ≡ 0
  pub none_under_way : (i : ℕ) → i < n → w.under_way i ≡ 0

-- Safety: if a process knows the end, the processes have terminated, then and at any time after.
abbrev pub NeverEarlyLaw : Type 0
NeverEarlyLaw = (n i : ℕ) (later events : List Event) → i < n → IsTrue (((after n events).at i).over) → IsQuiet n
    (after n (later ++ events))

-- The same if `next` returns `Ended` at some process.
abbrev pub EndedLaw : Type 0
EndedLaw = (n i : ℕ) (later events : List Event) → i < n → (moved ((after n events).at i)).next ≡ Ended
    → IsQuiet n (after n (later ++ events))

-- Termination is stable.
abbrev pub QuietLaw : Type 0
QuietLaw = (n : ℕ) (later events : List Event) → IsQuiet n (after n events) → IsQuiet n (after n (later ++ events))

-- After termination process 0 starts at most two more waves.
abbrev pub FewWavesLaw : Type 0
FewWavesLaw = (n : ℕ) (later events : List Event) → 0 < n → IsQuiet n (after n events)
    → ((after n (later ++ events)).at 0).wave ≤ ((after n events).at 0).wave + 2

-- `next` returned something to do.
abbrev pub is_step : Next → Bool
is_step (Send l) = true
is_step Again = true
is_step _ = false

-- The receiver of the control message takes it.
abbrev pub is_taken : ℕ → World → Option ControlMessage → Bool
is_taken n w None = false
is_taken n w (Some l) = nat_lt l.to n && (is_for l (w.at l.to) && is_due l.from l.wave l.token (w.at l.to))

-- The event is useful: a wave makes progress.
abbrev pub is_useful : ℕ → World → Event → Bool
is_useful n w (Does i Moves) = nat_lt i n && is_step (moved (w.at i)).next
is_useful n w (Does i _) = false
is_useful n w (Comes k) = is_taken n w (control_at w.controls k)

-- the number of useful events among the later ones
abbrev pub useful : ℕ → List Event → List Event → ℕ
useful n [] events = 0
useful n (e ∷ later) events = if is_useful n (after n (later ++ events)) e then useful n later events + 1 else useful n later events

-- Liveness, a bound: after termination at most 14n - 11 more events are useful, whatever happens, in whatever order.
abbrev pub SoonLaw : Type 0
SoonLaw = (n : ℕ) (later events : List Event) → 0 < n → IsQuiet n (after n events) → useful n later events + 11 ≤ 14 * n

-- Liveness, no deadlock: until `next` returns `Ended` at each process, a useful event is possible: a call of `next`, or
-- a control message.
abbrev pub GoesOnLaw : Type 0
GoesOnLaw = (n : ℕ) (events : List Event) → 0 < n → n ≤ 2 ^ 20 → ((after n events).at 0).wave + 1 < 2 ^ 64 → IsQuiet n (after n events)
    → ((i : ℕ) → i < n → (moved ((after n events).at i)).next ≡ Ended) ⊎ ((e : Event) × IsTrue (is_useful n (after n events) e))

-- Control messages are idempotent: one that has come is never taken after that.
abbrev pub OnceLaw : Type 0
OnceLaw = (n k : ℕ) (later events : List Event) (l : ControlMessage) → n ≤ 2 ^ 20 → control_at (after n events).controls k ≡ Some l
    → IsFalse (is_taken n (after n (later ++ Comes k ∷ events)) (Some l))

-- A wave costs two control messages for each process except process 0, and the end costs one.
abbrev pub ControlMessagesLaw : Type 0
ControlMessagesLaw = (n : ℕ) (events : List Event) → 0 < n
    → length (after n events).controls ≤ (2 * ((after n events).at 0).wave + 1) * (n - 1)
