-- Control messages, refusals and results of `next`, as numbers.
pub use Rattle.gerfmuod.specs.declared.process.WireMessage.{WireMessage}
pub use Rattle.std.specs.Prelude.{ℕ, ◌≡◌, ◌⊎◌, ◌==◌, if◌then◌else◌, Option, Some, None, Result, Ok, Err, ◌≤◌, ◌&&◌, true}
pub use Rattle.std.specs.Result.{result_err}
pub use Rattle.tp_process.specs.Calls.{receive_refusal, take_refusal, close_refusal, closed, moved, open_refusal, opened, send_refusal}
pub use Rattle.tp_process.specs.{Calls.sent, Epochs.{of_epoch, took_in, with_state, received_in, reopen_refusal, reopened}, Opening.checked}
pub use Rattle.tp_process.specs.{Opening.{if_open, is_open, unopened, new_process, next_of}, State.{EpochState, ProcessState, read}}
pub use Rattle.tp_process.specs.declared.control_message.{ControlMessage.ControlMessage, Token.{Token, TheVariants.{Down, Up, Over}}}
pub use Rattle.tp_process.specs.declared.outcome.{Next.{Next, TheVariants.{Send, Again, Ended, Nothing}}, Refusal.Refusal}
pub use Rattle.tp_process.specs.declared.outcome.Refusal.TheVariants.{Inactive, Full, NotDue, NotYet, Late, NotEnded, NotOpen, NoProcess}
pub use Rattle.tp_process.specs.declared.{outcome.Refusal.TheVariants.{Miscounted, Mismatched}, process.Process.Process}

abbrev pub wire_as : ℕ → ControlMessage → ℕ → ℕ → ℕ → WireMessage
wire_as e l token s r =
    record { epoch = e; from = l.from; to = l.to; wave = l.wave; token = token; processes = l.processes; sent = s; received = r }

abbrev pub wire_with : ℕ → ControlMessage → Token → WireMessage
wire_with e l Down = wire_as e l 0 0 0
wire_with e l (Up s r) = wire_as e l 1 s r
wire_with e l Over = wire_as e l 2 0 0

-- the eight numbers of a control message of an epoch
abbrev pub wire_of : ℕ → ControlMessage → WireMessage
wire_of e l = wire_with e l l.token

abbrev pub message_with : WireMessage → Token → ControlMessage
message_with m token = record { from = m.from; to = m.to; wave = m.wave; processes = m.processes; token = token }

-- the control message of eight numbers, if there is such a token
abbrev pub message_of : WireMessage → Option ControlMessage
message_of m =
    if m.token == 0 then Some (message_with m Down)
    else (if m.token == 1 then Some (message_with m (Up m.sent m.received))
    else (if m.token == 2 then Some (message_with m Over) else None))

-- The number of a refusal, or 0. Each is above 100, so it differs from the results of `next` and from the refusals of a
-- core.
abbrev pub refused_as : Option Refusal → ℕ
refused_as None = 0
refused_as (Some Inactive) = 101
refused_as (Some Full) = 102
refused_as (Some NotDue) = 103
refused_as (Some NotYet) = 104
refused_as (Some Late) = 105
refused_as (Some NotEnded) = 106
refused_as (Some NotOpen) = 107
refused_as (Some NoProcess) = 108
refused_as (Some Miscounted) = 110
refused_as (Some Mismatched) = 111

-- the refusal of a call: the process is not open, or its state does not pass the test
abbrev pub refused_by : (EpochState → Option Refusal) → ProcessState → ℕ
refused_by test p = refused_as (checked p (test p.state))

-- the refusal of a call that counts a message of epoch e as received
abbrev pub receipt_refused : ℕ → ProcessState → ℕ
receipt_refused e p = refused_as (checked p (of_epoch e p (receive_refusal p.state)))

-- the process after an event, which has no effect if the process is not open
abbrev pub after_event : (EpochState → EpochState) → ProcessState → ProcessState
after_event event p = if_open p (with_state p (event p.state))

-- the content of the place for a process after `new`
abbrev pub after_init : Result Process Refusal → Process
after_init (Ok p) = p
after_init (Err e) = unopened

-- A call that does not return 0 was refused and changed no byte.
abbrev pub IsKept : {A : Type 0} → ℕ → A → A → Type 0
IsKept number old new = (number ≡ 0) ⊎ (new ≡ old)

-- An event at a process: what the call returns, and the process after it.
pub record IsEvent (refusal : ProcessState → ℕ) (after : ProcessState → ProcessState) (old : Process) (number : ℕ) (new : Process)
    : Type 0 where
  pub refused : number ≡ refusal (read old)
  pub state : read new ≡ after (read old)
  pub kept : IsKept number old new

-- The refusal of a control message: 109 if there is no such token, which is checked after whether the process is open.
abbrev pub taken_as : ℕ → Option ControlMessage → ProcessState → ℕ
taken_as e None p = if is_open p then 109 else 107
taken_as e (Some l) p = refused_as (checked p (of_epoch e p (take_refusal l p.state)))

abbrev pub after_taking : ℕ → Option ControlMessage → ProcessState → ProcessState
after_taking e None p = p
after_taking e (Some l) p = if_open p (took_in e l p)

-- what to do next, or why the call was refused
abbrev pub next_as : Result Next Refusal → ℕ
next_as (Ok Nothing) = 0
next_as (Ok (Send l)) = 1
next_as (Ok Again) = 2
next_as (Ok Ended) = 3
next_as (Err e) = refused_as (Some e)

-- the content of `message_out`: the control message to send, if there is one
abbrev pub wire_after : ℕ → Result Next Refusal → WireMessage → WireMessage
wire_after e (Ok (Send l)) old = wire_of e l
wire_after e _ old = old
