-- A network that brings each control message once, in any order: its state, its events, and the theorems about it.
use Rattle.std.specs.Prelude.{ℕ, zero, suc, ◌+◌, ◌^◌, ◌≡◌, ◌<◌, ◌≤◌, List, [], ◌∷◌, Bool, true, false, nat_lt, if◌then◌else◌, Option, Some}
use Rattle.std.specs.Prelude.{None, ◌==◌, ◌&&◌}
use Rattle.tp_process.specs.{Calls.moved, Epochs.{Epochs, In, Reopens, advance, has_notified, initial, is_in_epoch, took_in, with_world}}
use Rattle.tp_process.specs.{Epochs.world_of, World.{Act, Moves, Does, came, is_step}}
use Rattle.tp_process.specs.declared.{control_message.ControlMessage.ControlMessage, outcome.Next.{Next, TheVariants.Send}}

-- a control message on its way, and the epoch in which it was sent
pub record Carried : Type 0 where
  pub epoch : ℕ
  pub message : ControlMessage

pub record Network : Type 0 where
  -- the processes, each in its epoch, the messages under way, and every control message that was ever sent
  pub epochs : Epochs
  -- the control messages that are on their way, and those that a process keeps until it reopens
  pub carried : List Carried

-- An event: process i does something in its epoch, or reopens; or a control message arrives at its receiver.
pub data NetworkEvent : Type 0 where
  Acts : (i : ℕ) → (a : Act) → NetworkEvent
  Restarts : (i : ℕ) → NetworkEvent
  Arrives : (which : ℕ) → NetworkEvent

abbrev pub with_sent : ℕ → Next → List Carried → List Carried
with_sent e (Send l) carried = record { epoch = e; message = l } ∷ carried
with_sent e _ carried = carried

-- the control messages on their way after an act of process i: one that `next` returned is added
abbrev pub carried_after : ℕ → Network → ℕ → Act → List Carried
carried_after n s i Moves =
    if nat_lt i n then with_sent (s.epochs.at i).epoch (moved (s.epochs.at i).state).next s.carried else s.carried
carried_after n s i _ = s.carried

abbrev pub carried_at : List Carried → ℕ → Option Carried
carried_at [] k = None
carried_at (c ∷ cs) zero = Some c
carried_at (c ∷ cs) (suc k) = carried_at cs k

abbrev pub without : ℕ → List Carried → List Carried
without k [] = []
without zero (c ∷ cs) = cs
without (suc k) (c ∷ cs) = c ∷ without k cs

-- The receiver of the control message refuses it as `NotYet`.
abbrev pub is_early : Epochs → Carried → Bool
is_early w c = nat_lt (w.at c.message.to).epoch c.epoch

-- the epochs after the receiver was called with the control message
abbrev pub handed : ℕ → Epochs → Carried → Epochs
handed n w c =
    if is_in_epoch c.epoch w c.message.to then with_world c.epoch w (came n (world_of c.epoch w) (Some c.message)) else w

-- A control message that is refused as `NotYet` is kept, to be passed again; any other has come, and does not come
-- again.
abbrev pub arrived : ℕ → Network → ℕ → Option Carried → Network
arrived n s k None = s
arrived n s k (Some c) =
    if is_early s.epochs c then s else record { epochs = handed n s.epochs c; carried = without k s.carried }

-- the network after an event of n processes
abbrev pub network_step : ℕ → Network → NetworkEvent → Network
network_step n s (Acts i a) =
    record { epochs = advance n s.epochs (In (s.epochs.at i).epoch (Does i a)); carried = carried_after n s i a }
network_step n s (Restarts i) = record { epochs = advance n s.epochs (Reopens i); carried = s.carried }
network_step n s (Arrives k) = arrived n s k (carried_at s.carried k)

-- the network after these events, the newest first
abbrev pub network : ℕ → List NetworkEvent → Network
network n [] = record { epochs = initial n; carried = [] }
network n (event ∷ past) = network_step n (network n past) event

-- The receiver's call is `take`, with the epoch of the control message.
abbrev pub HandedLaw : Type 0
HandedLaw = (n : ℕ) (w : Epochs) (c : Carried) → c.message.to < n
    → (handed n w c).at c.message.to ≡ took_in c.epoch c.message (w.at c.message.to)

-- Nothing is left to do: each process has finished its work and received its messages, `next` returns nothing more to
-- do, the control messages that are left are refused as `NotYet`, and each process has reopened whenever it could, up
-- to the last epoch.
pub record IsStill (n last : ℕ) (s : Network) : Type 0 where
  pub idle : (i : ℕ) → i < n → (s.epochs.at i).state.pending ≡ 0
  pub received : (i : ℕ) → i < n → s.epochs.under_way (s.epochs.at i).epoch i ≡ 0
  pub moved : (i : ℕ) → i < n → is_step (moved (s.epochs.at i).state).next ≡ false
  pub carried : (k : ℕ) (c : Carried) → carried_at s.carried k ≡ Some c → is_early s.epochs c ≡ true
  pub reopened : (i : ℕ) → i < n → (s.epochs.at i).epoch < last → has_notified (s.epochs.at i).state ≡ false
  pub within : (i : ℕ) → i < n → (s.epochs.at i).epoch ≤ last

-- Liveness, epoch after epoch: if nothing is left to do, all processes have come to the last epoch and know its end.
abbrev pub AllEndLaw : Type 0
AllEndLaw = (n last : ℕ) (events : List NetworkEvent) → n ≤ 2 ^ 20
    → (((network n events).epochs.at 0).state.over ≡ false → ((network n events).epochs.at 0).state.wave + 1 < 2 ^ 64)
    → IsStill n last (network n events) → (i : ℕ) → i < n
    → (((network n events).epochs.at i).epoch ≡ last) × (has_notified ((network n events).epochs.at i).state ≡ true)

-- No control message is refused as `Late`: one on its way to a process is of the process's epoch, or of a later one.
abbrev pub NeverLateLaw : Type 0
NeverLateLaw = (n k : ℕ) (c : Carried) (events : List NetworkEvent) → n ≤ 2 ^ 20 → carried_at (network n events).carried k ≡ Some c
    → ((network n events).epochs.at c.message.to).epoch ≤ c.epoch

-- the number of control messages of epoch e that are on their way to process k, or kept by it
abbrev pub carried_to : ℕ → ℕ → List Carried → ℕ
carried_to e k [] = 0
carried_to e k (c ∷ cs) = if (c.epoch == e) && (c.message.to == k) then carried_to e k cs + 1 else carried_to e k cs

-- At most two control messages of an epoch are on their way to a process, or kept by it.
abbrev pub FewCarriedLaw : Type 0
FewCarriedLaw = (n e k : ℕ) (events : List NetworkEvent) → n ≤ 2 ^ 20 → k < n → carried_to e k (network n events).carried ≤ 2
