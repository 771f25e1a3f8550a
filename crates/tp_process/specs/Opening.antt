-- Which processes are open: those that `new` returned. Every call refuses any other.
use Rattle.std.specs.Prelude.{ℕ, ◌==◌, ◌≡◌, Bool, true, false, nat_lt, if◌then◌else◌, List, Option, Some, Result, Ok, Err}
use Rattle.tp_process.specs.{Calls.{is_miscounted, moved, next_result}, Epochs.{of_epoch, EpochEvent, epochs_after}, State.ProcessState}
use Rattle.tp_process.specs.{State.new_state, declared.outcome.{Next.Next, Refusal.{Refusal, TheVariants.{NotOpen, NoProcess}}}}
use Rattle.tp_process.specs.declared.process.{Process.Process, TheConstants.MARK}

abbrev pub is_open : ProcessState → Bool
is_open r = r.mark == MARK

abbrev stored_with : ℕ → ℕ → ℕ → Process
stored_with mark number processes = record { mark = mark; epoch = 0; state = new_state number processes }

-- what `new` returns
abbrev pub new_process : ℕ → ℕ → Result Process Refusal
new_process number processes = if nat_lt number processes then Ok (stored_with MARK number processes) else Err NoProcess

-- what a place for a process holds before
abbrev pub unopened : Process
unopened = stored_with 0 0 0

-- why a call is refused: first that the process is not open, then the call's own reason
abbrev pub checked : ProcessState → Option Refusal → Option Refusal
checked r refusal = if is_open r then refusal else Some NotOpen

-- the same for a call with a message or a control message of an epoch
abbrev pub checked_in : ℕ → ProcessState → Option Refusal → Option Refusal
checked_in e r refusal = checked r (of_epoch e r refusal)

-- the process after a call: unchanged if it is not open
abbrev pub if_open : ProcessState → ProcessState → ProcessState
if_open r new = if is_open r then new else r

abbrev pub next_of : ProcessState → Result Next Refusal
next_of r = if is_open r then next_result r.state else Err NotOpen

-- Every process is open, at all times: no call is refused because it is not.
abbrev pub OpenLaw : Type 0
OpenLaw = (n i : ℕ) (all : List EpochEvent) → is_open ((epochs_after n all).at i) ≡ true

-- The counts are right, at all times: no call of `next` is refused as `Miscounted`.
abbrev pub CountedLaw : Type 0
CountedLaw = (n i : ℕ) (all : List EpochEvent) → is_miscounted ((epochs_after n all).at i).state ≡ false

-- On an open process the contracts say no more than the call's own reason, state and result, and `next` is not refused.
pub record AreOpenCalls (r : ProcessState) : Type 0 where
  pub refusals : (refusal : Option Refusal) → checked r refusal ≡ refusal
  pub states : (new : ProcessState) → if_open r new ≡ new
  pub next : next_of r ≡ Ok (moved r.state).next

abbrev pub OpenCallsLaw : Type 0
OpenCallsLaw = (n i : ℕ) (all : List EpochEvent) → AreOpenCalls ((epochs_after n all).at i)
