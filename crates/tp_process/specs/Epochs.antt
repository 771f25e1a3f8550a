-- Epoch after epoch: what each call does to a process that can reopen, all processes together, each in an epoch of its
-- own, and the theorems about them.
use Rattle.std.specs.Prelude.{ℕ, ◌+◌, ◌-◌, ◌*◌, ◌==◌, ◌&&◌, ◌≡◌, ◌<◌, ◌≤◌, ◌⊎◌, ◌^◌, List, [], ◌∷◌, ◌++◌, Bool, true, false, not, IsTrue}
use Rattle.std.specs.Prelude.{IsFalse, length, nat_lt, if◌then◌else◌, Option, Some, None}
use Rattle.tp_process.specs.{Calls.{blank, closed, do_fit, moved, opened, received, sent, took}, State.{EpochState, ProcessState}}
use Rattle.tp_process.specs.World.{World, Event, Does, Comes, Opens, Closes, Sends, Receives, Moves, posted, put, happens, after}
use Rattle.tp_process.specs.{World.{control_at, is_taken, is_useful}, declared.control_message.ControlMessage.ControlMessage}
use Rattle.tp_process.specs.declared.{outcome.Refusal.{Refusal, TheVariants.{Full, NotYet, Late, NotEnded}}, process.TheConstants.MARK}

-- a new process: its first epoch
abbrev pub initial_process : ℕ → ℕ → ProcessState
initial_process number processes = record { mark = MARK; epoch = 0; state = blank number processes }

-- the same epoch, another state
abbrev pub with_state : ProcessState → EpochState → ProcessState
with_state r p = record r { state = p }

-- The process knows the end, and has notified its children.
abbrev pub has_notified : EpochState → Bool
has_notified p = p.over && not p.over_left && not p.over_right

abbrev pub can_reopen : ProcessState → Bool
can_reopen r = has_notified r.state && do_fit r.epoch 1

-- the next epoch, from its beginning
abbrev pub reopened : ProcessState → ProcessState
reopened r = if can_reopen r then record r { epoch = r.epoch + 1; state = blank r.state.number r.state.processes } else r

abbrev pub reopen_refusal : ProcessState → Option Refusal
reopen_refusal r = if has_notified r.state then (if do_fit r.epoch 1 then None else Some Full) else Some NotEnded

-- A message or a control message of another epoch is refused before anything else is checked.
abbrev pub of_epoch : ℕ → ProcessState → Option Refusal → Option Refusal
of_epoch e r refusal = if e == r.epoch then refusal else (if nat_lt r.epoch e then Some NotYet else Some Late)

abbrev pub received_in : ℕ → ProcessState → ProcessState
received_in e r = if e == r.epoch then with_state r (received r.state) else r

abbrev pub took_in : ℕ → ControlMessage → ProcessState → ProcessState
took_in e l r = if e == r.epoch then with_state r (took l r.state) else r

pub record Epochs : Type 0 where
  -- the processes, each in its epoch, by number
  pub at : ℕ → ProcessState
  -- the number of messages of epoch e under way to process j
  pub under_way : ℕ → ℕ → ℕ
  -- every control message that was ever sent in epoch e
  pub controls : ℕ → List ControlMessage

-- What happens: an event of epoch e, or a process reopens.
pub data EpochEvent : Type 0 where
  In : (e : ℕ) → (event : Event) → EpochEvent
  Reopens : (i : ℕ) → EpochEvent

abbrev pub is_in_epoch : ℕ → Epochs → ℕ → Bool
is_in_epoch e w i = (w.at i).epoch == e

abbrev pub is_receiver_in_epoch : ℕ → Epochs → Option ControlMessage → Bool
is_receiver_in_epoch e w None = false
is_receiver_in_epoch e w (Some l) = is_in_epoch e w l.to

-- The process of the event is in epoch e. If it is not, its call is refused.
abbrev pub is_current : ℕ → Epochs → Event → Bool
is_current e w (Does i a) = is_in_epoch e w i
is_current e w (Comes k) = is_receiver_in_epoch e w (control_at (w.controls e) k)

-- the world as the processes in epoch e see it
abbrev pub world_of : ℕ → Epochs → World
world_of e w = record { at = λ j. (w.at j).state; under_way = w.under_way e; controls = w.controls e }

-- The processes in epoch e, its messages and its control messages become those of x.
abbrev pub with_world : ℕ → Epochs → World → Epochs
with_world e w x =
    record {
      at = λ j. with_state (w.at j) (if is_in_epoch e w j then x.at j else (w.at j).state);
      under_way = put e x.under_way w.under_way;
      controls = put e x.controls w.controls;
    }

-- the epochs after an event of n processes
abbrev pub advance : ℕ → Epochs → EpochEvent → Epochs
advance n w (In e event) = if is_current e w event then with_world e w (happens n (world_of e w) event) else w
advance n w (Reopens i) = if nat_lt i n then record w { at = put i (reopened (w.at i)) w.at } else w

-- the epochs at the beginning of n processes
abbrev pub initial : ℕ → Epochs
initial n = record { at = λ i. initial_process i n; under_way = λ e j. 0; controls = λ e. [] }

-- the epochs after these events, the newest first
abbrev pub epochs_after : ℕ → List EpochEvent → Epochs
epochs_after n [] = initial n
epochs_after n (o ∷ past) = advance n (epochs_after n past) o

-- the events of epoch e that were not refused because of the epoch
abbrev pub events_of : ℕ → ℕ → List EpochEvent → List Event
events_of n e [] = []
events_of n e (In f event ∷ past) =
    if (f == e) && is_current f (epochs_after n past) event then event ∷ events_of n e past else events_of n e past
events_of n e (Reopens i ∷ past) = events_of n e past

-- Epoch e of w is the world x. A process in it has its state of x; one that has not come to it is at its beginning in
-- x; one that has left it has notified its children in x. The messages and control messages of epoch e are those of x.
pub record IsEpoch (n e : ℕ) (w : Epochs) (x : World) : Type 0 where
  pub now : (i : ℕ) → (w.at i).epoch ≡ e → (w.at i).state ≡ x.at i
  pub before : (i : ℕ) → (w.at i).epoch < e → x.at i ≡ blank i n
  pub left : (i : ℕ) → e < (w.at i).epoch → has_notified (x.at i) ≡ true
  pub under_way : w.under_way e ≡ x.under_way
  pub controls : w.controls e ≡ x.controls

-- Each epoch is the world after its own events alone.
abbrev pub EpochLaw : Type 0
EpochLaw = (n e : ℕ) (all : List EpochEvent) → IsEpoch n e (epochs_after n all) (after n (events_of n e all))

-- Epoch e has terminated: all processes have come to it, those in it are idle, and no message of it is under way.
pub record IsOver (n e : ℕ) (w : Epochs) : Type 0 where
  pub come : (i : ℕ) → i < n → e ≤ (w.at i).epoch
  pub idle : (i : ℕ) → i < n → (w.at i).epoch ≡ e → (w.at i).state.pending ≡ 0
  pub none_under_way : (i : ℕ) → i < n → w.under_way e i ≡ 0

-- Safety: if a process knows the end of its epoch, that epoch has terminated, then and at any time after.
abbrev pub NeverEarlyEpochLaw : Type 0
NeverEarlyEpochLaw = (n i : ℕ) (later all : List EpochEvent) → i < n → ((epochs_after n all).at i).state.over ≡ true
    → IsOver n ((epochs_after n all).at i).epoch (epochs_after n (later ++ all))

-- The same if some process has left the epoch.
abbrev pub LeftEpochLaw : Type 0
LeftEpochLaw = (n i e : ℕ) (all : List EpochEvent) → i < n → e < ((epochs_after n all).at i).epoch → IsOver n e (epochs_after n all)

-- The epochs of two processes differ by at most one.
abbrev pub NearLaw : Type 0
NearLaw = (n i j : ℕ) (all : List EpochEvent) → i < n → j < n → ((epochs_after n all).at i).epoch ≤ ((epochs_after n all).at j).epoch + 1

-- No message is late: none of an older epoch is under way to a process.
abbrev pub NoneLateLaw : Type 0
NoneLateLaw = (n i e : ℕ) (all : List EpochEvent) → i < n → e < ((epochs_after n all).at i).epoch → (epochs_after n all).under_way e i ≡ 0

-- A message under way is of its receiver's epoch, or of the next.
abbrev pub MessageLaw : Type 0
MessageLaw = (n i e : ℕ) (all : List EpochEvent) → i < n → 0 < (epochs_after n all).under_way e i
    → (((epochs_after n all).at i).epoch ≤ e) × (e ≤ ((epochs_after n all).at i).epoch + 1)

-- No control message was sent of an epoch further ahead than the next: what a process has to keep is of the next epoch.
abbrev pub AheadLaw : Type 0
AheadLaw = (n i e : ℕ) (all : List EpochEvent) → i < n → ((epochs_after n all).at i).epoch + 1 < e → (epochs_after n all).controls e ≡ []

-- The event makes progress: it is a useful event of its epoch, or the process can reopen.
abbrev pub is_progress : ℕ → Epochs → EpochEvent → Bool
is_progress n w (In e event) = is_current e w event && is_useful n (world_of e w) event
is_progress n w (Reopens i) = nat_lt i n && can_reopen (w.at i)

-- Liveness: after an epoch has terminated, a useful event of it is possible until all processes in it can reopen,
-- whichever left before.
abbrev pub GoesOnEpochLaw : Type 0
GoesOnEpochLaw = (n e : ℕ) (all : List EpochEvent) → 0 < n → n ≤ 2 ^ 20
    → (((epochs_after n all).at 0).epoch ≡ e → ((epochs_after n all).at 0).state.over ≡ false
    → ((epochs_after n all).at 0).state.wave + 1 < 2 ^ 64)
    → IsOver n e (epochs_after n all)
    → ((i : ℕ) → i < n → ((epochs_after n all).at i).epoch ≡ e → has_notified ((epochs_after n all).at i).state ≡ true)
    ⊎ ((event : Event) × IsTrue (is_progress n (epochs_after n all) (In e event)))

-- A process whose epoch another has left can reopen, or a useful event of its epoch is possible.
abbrev pub LagsLaw : Type 0
LagsLaw = (n i j : ℕ) (all : List EpochEvent) → n ≤ 2 ^ 20 → i < n → j < n
    → ((epochs_after n all).at i).epoch < ((epochs_after n all).at j).epoch
    → (has_notified ((epochs_after n all).at i).state ≡ true)
    ⊎ ((event : Event) × IsTrue (is_progress n (epochs_after n all) (In ((epochs_after n all).at i).epoch event)))

-- the number of useful events of epoch e among the later events
abbrev pub is_of : ℕ → EpochEvent → Bool
is_of e (In f event) = f == e
is_of e (Reopens i) = false

abbrev pub progress_count : ℕ → ℕ → List EpochEvent → List EpochEvent → ℕ
progress_count n e [] all = 0
progress_count n e (o ∷ later) all =
    if is_of e o && is_progress n (epochs_after n (later ++ all)) o then progress_count n e later all + 1 else progress_count n e later all

-- After an epoch has terminated at most 14n - 11 more of its events are useful,
abbrev pub SoonEpochLaw : Type 0
SoonEpochLaw = (n e : ℕ) (later all : List EpochEvent) → 0 < n → IsOver n e (epochs_after n all)
    → progress_count n e later all + 11 ≤ 14 * n

-- and process 0 starts at most two more waves in it.
abbrev pub FewWavesEpochLaw : Type 0
FewWavesEpochLaw = (n e : ℕ) (later all : List EpochEvent) → 0 < n → IsOver n e (epochs_after n all)
    → ((epochs_after n all).at 0).epoch ≡ e → ((epochs_after n (later ++ all)).at 0).epoch ≡ e
    → ((epochs_after n (later ++ all)).at 0).state.wave ≤ ((epochs_after n all).at 0).state.wave + 2

-- Its receiver takes the control message of epoch e.
abbrev pub is_taken_in : ℕ → ℕ → Epochs → ControlMessage → Bool
is_taken_in n e w l = is_in_epoch e w l.to && is_taken n (world_of e w) (Some l)

-- Control messages are idempotent: one that has come while its receiver is in its epoch is never taken after that. Only
-- one that was refused as `NotYet` has to come again.
abbrev pub OnceEpochLaw : Type 0
OnceEpochLaw = (n e k : ℕ) (later all : List EpochEvent) (l : ControlMessage) → n ≤ 2 ^ 20
    → control_at ((epochs_after n all).controls e) k ≡ Some l
    → is_in_epoch e (epochs_after n all) l.to ≡ true
    → IsFalse (is_taken_in n e (epochs_after n (later ++ In e (Comes k) ∷ all)) l)

-- A wave of an epoch costs two control messages for each process except process 0, and its end costs one.
abbrev pub ControlMessagesEpochLaw : Type 0
ControlMessagesEpochLaw = (n : ℕ) (all : List EpochEvent) → 0 < n
    → length ((epochs_after n all).controls ((epochs_after n all).at 0).epoch) ≤ (2 * ((epochs_after n all).at 0).state.wave + 1) * (n - 1)

-- An event does to its process what the contract of the call says.
pub record AreCalls (n : ℕ) (w : Epochs) : Type 0 where
  pub opens : (i : ℕ) → i < n → (advance n w (In (w.at i).epoch (Does i Opens))).at i ≡ with_state (w.at i) (opened (w.at i).state)
  pub closes : (i : ℕ) → i < n → (advance n w (In (w.at i).epoch (Does i Closes))).at i ≡ with_state (w.at i) (closed (w.at i).state)
  pub sends : (i j : ℕ) → i < n → j < n
      → (advance n w (In (w.at i).epoch (Does i (Sends j)))).at i ≡ with_state (w.at i) (sent (w.at i).state)
  pub receives : (e i : ℕ) → i < n → 0 < w.under_way e i → (advance n w (In e (Does i Receives))).at i ≡ received_in e (w.at i)
  pub moves : (i : ℕ) → i < n → (advance n w (In (w.at i).epoch (Does i Moves))).at i ≡ with_state (w.at i) (moved (w.at i).state).state
  pub posts : (i : ℕ) → i < n
      → (advance n w (In (w.at i).epoch (Does i Moves))).controls (w.at i).epoch ≡ posted (moved (w.at i).state).next
      (w.controls (w.at i).epoch)
  pub takes : (e k : ℕ) (l : ControlMessage) → l.to < n → control_at (w.controls e) k ≡ Some l
      → (advance n w (In e (Comes k))).at l.to ≡ took_in e l (w.at l.to)
  pub reopens : (i : ℕ) → i < n → (advance n w (Reopens i)).at i ≡ reopened (w.at i)

abbrev pub CallsLaw : Type 0
CallsLaw = (n : ℕ) (w : Epochs) → AreCalls n w
