-- What each call does to the state of one process in one epoch, and when it is refused. A refused call changes nothing.
use Rattle.std.specs.Prelude.{ℕ, ◌+◌, ◌-◌, ◌*◌, ◌^◌, ◌==◌, ◌&&◌, ◌||◌, Bool, true, false, not, nat_lt, if◌then◌else◌, Option, Some, None}
use Rattle.std.specs.Prelude.{Result, Ok, Err}
use Rattle.tp_base.specs.Tree.{parent}
use Rattle.tp_process.specs.{State.{EpochState, new_state, read_state}, declared.control_message.ControlMessage.ControlMessage}
use Rattle.tp_process.specs.declared.{control_message.Token.{Token, TheVariants.{Down, Up, Over}}, epoch_state.TheConstants.LIMIT}
use Rattle.tp_process.specs.declared.outcome.{Next.{Next, TheVariants.{Send, Again, Ended, Nothing}}, Refusal.Refusal}
use Rattle.tp_process.specs.declared.outcome.Refusal.TheVariants.{Inactive, Full, NotDue, Miscounted, Mismatched}

-- the state at the beginning of an epoch
abbrev pub blank : ℕ → ℕ → EpochState
blank number processes = read_state (new_state number processes)

abbrev pub open_refusal : EpochState → Option Refusal
open_refusal p = if p.pending == 0 then Some Inactive else (if nat_lt p.pending LIMIT then None else Some Full)

-- one more piece of work
abbrev pub opened : EpochState → EpochState
opened p = if not (p.pending == 0) && nat_lt p.pending LIMIT then record p { pending = p.pending + 1 } else p

abbrev pub close_refusal : EpochState → Option Refusal
close_refusal p = if p.pending == 0 then Some Inactive else None

-- one piece of work less
abbrev pub closed : EpochState → EpochState
closed p = record p { pending = p.pending - 1 }

abbrev pub can_send : EpochState → Bool
can_send p = not (p.pending == 0) && nat_lt p.sent LIMIT

abbrev pub send_refusal : EpochState → Option Refusal
send_refusal p = if p.pending == 0 then Some Inactive else (if nat_lt p.sent LIMIT then None else Some Full)

-- one more message sent
abbrev pub sent : EpochState → EpochState
sent p = if can_send p then record p { sent = p.sent + 1 } else p

abbrev pub can_receive : EpochState → Bool
can_receive p = nat_lt p.pending LIMIT && nat_lt p.received LIMIT

abbrev pub receive_refusal : EpochState → Option Refusal
receive_refusal p = if can_receive p then None else Some Full

-- one more message received, which is a piece of work
abbrev pub received : EpochState → EpochState
received p = if can_receive p then record p { pending = p.pending + 1; received = p.received + 1 } else p

-- the children of a process in the binary tree, if their numbers are below the number of processes
abbrev pub left_of : EpochState → ℕ
left_of p = 2 * p.number + 1

abbrev pub right_of : EpochState → ℕ
right_of p = 2 * p.number + 2

abbrev pub has : EpochState → ℕ → Bool
has p child = nat_lt child p.processes

-- wave w comes to the process
abbrev pub opens : ℕ → EpochState → EpochState
opens w p =
    record p {
      wave = w;
      here = true;
      taken_sent = 0;
      taken_received = 0;
      down_left = has p (left_of p);
      down_right = has p (right_of p);
      up_left = has p (left_of p);
      up_right = has p (right_of p);
    }

-- the process learns of the end, and has its children to notify
abbrev pub ends : EpochState → EpochState
ends p = record p { over = true; over_left = has p (left_of p); over_right = has p (right_of p) }

-- The wave is the next one, and the process has passed the newest one up.
abbrev pub is_down_due : ℕ → EpochState → Bool
is_down_due w p = not p.here && (w == p.wave + 1)

abbrev pub do_fit : ℕ → ℕ → Bool
do_fit a b = nat_lt (a + b) (2 ^ 64)

-- The sums are of the wave that is here, and can be added without overflow.
abbrev pub is_up_due : ℕ → ℕ → ℕ → EpochState → Bool
is_up_due w s r p = p.here && (w == p.wave) && do_fit p.taken_sent s && do_fit p.taken_received r

abbrev pub is_left : ℕ → EpochState → Bool
is_left from p = p.up_left && (from == left_of p)

abbrev pub is_right : ℕ → EpochState → Bool
is_right from p = p.up_right && (from == right_of p)

abbrev pub takes_left : ℕ → ℕ → EpochState → EpochState
takes_left s r p = record p { taken_sent = p.taken_sent + s; taken_received = p.taken_received + r; up_left = false }

abbrev pub takes_right : ℕ → ℕ → EpochState → EpochState
takes_right s r p = record p { taken_sent = p.taken_sent + s; taken_received = p.taken_received + r; up_right = false }

-- the state after a control message for this process
abbrev pub takes : ℕ → ℕ → Token → EpochState → EpochState
takes from w Down p = if is_down_due w p then opens w p else p
takes from w (Up s r) p =
    if is_up_due w s r p then (if is_left from p then takes_left s r p else (if is_right from p then takes_right s r p else p)) else p
takes from w Over p = if p.over then p else ends p

-- The control message is for this process, and its sender has the same number of processes.
abbrev pub is_for : ControlMessage → EpochState → Bool
is_for l p = (l.processes == p.processes) && (l.to == p.number)

abbrev pub took : ControlMessage → EpochState → EpochState
took l p = if is_for l p then takes l.from l.wave l.token p else p

-- A control message is due if the process waits for it; any other is refused.
abbrev pub is_due : ℕ → ℕ → Token → EpochState → Bool
is_due from w Down p = is_down_due w p
is_due from w (Up s r) p = is_up_due w s r p && (is_left from p || is_right from p)
is_due from w Over p = not p.over

abbrev pub due : Bool → Option Refusal
due b = if b then None else Some NotDue

abbrev pub take_refusal : ControlMessage → EpochState → Option Refusal
take_refusal l p = if l.processes == p.processes then due ((l.to == p.number) && is_due l.from l.wave l.token p) else Some Mismatched

-- Process 0 starts the next wave if it is idle and no wave is open.
abbrev pub can_start : EpochState → Bool
can_start p = (p.number == 0) && not p.over && not p.here && (p.pending == 0) && do_fit p.wave 1

abbrev pub ready : EpochState → EpochState
ready p = if can_start p then opens (p.wave + 1) p else p

-- The process can pass the wave up: it is idle, and its children have reported.
abbrev pub can_give : EpochState → Bool
can_give p =
    not p.up_left && not p.up_right && (p.pending == 0) && do_fit p.taken_sent p.sent && do_fit p.taken_received p.received

abbrev pub control : EpochState → ℕ → Token → ControlMessage
control p to token = record { from = p.number; to = to; wave = p.wave; processes = p.processes; token = token }

-- what a process does next: its new state, and what `next` returns
pub record Move : Type 0 where
  pub state : EpochState
  pub next : Next

abbrev pub notifies : EpochState → Move
notifies p =
    if p.over_left then record { state = record p { over_left = false }; next = Send (control p (left_of p) Over) }
    else (if p.over_right then record { state = record p { over_right = false }; next = Send (control p (right_of p) Over) }
    else record { state = p; next = Ended })

-- The four counter test (Mattern 1987): the previous wave counted as many messages received as this wave counts sent.
abbrev pub is_end : EpochState → Bool
is_end p = p.known && (p.last_received == p.taken_sent + p.sent)

abbrev pub judges : EpochState → Move
judges p =
    if is_end p then record { state = ends p; next = Again }
    else record { state = record p { here = false; known = true; last_received = p.taken_received + p.received }; next = Again }

abbrev pub gives : EpochState → Move
gives p =
    if p.number == 0 then judges p
    else record {
      state = record p { here = false };
      next = Send (control p (parent p.number) (Up (p.taken_sent + p.sent) (p.taken_received + p.received)));
    }

-- The newest wave is here: it goes down to the children, and after they have reported the process passes it up.
abbrev pub visits : EpochState → Move
visits p =
    if p.down_left then record { state = record p { down_left = false }; next = Send (control p (left_of p) Down) }
    else (if p.down_right then record { state = record p { down_right = false }; next = Send (control p (right_of p) Down) }
    else (if can_give p then gives p else record { state = p; next = Nothing }))

abbrev pub acts : EpochState → Move
acts p = if p.over then notifies p else (if p.here then visits p else record { state = p; next = Nothing })

-- The wave has come from all processes, so process 0 judges it next. Without children it starts the wave in that call.
abbrev pub is_complete : EpochState → Bool
is_complete p =
    if p.here then not p.down_left && not p.down_right && not p.up_left && not p.up_right else not (has p (left_of p))

-- the number of messages that the wave counts as sent
abbrev pub counts_sent : EpochState → ℕ
counts_sent p = if p.here then p.taken_sent + p.sent else p.sent

-- Process 0 judges a wave that counts fewer messages as sent than the previous wave counted as received.
abbrev pub is_miscounted : EpochState → Bool
is_miscounted p =
    (p.number == 0) && not p.over && p.known && (p.pending == 0) && is_complete p && nat_lt (counts_sent p) p.last_received

abbrev pub next_result : EpochState → Result Next Refusal
next_result p = if is_miscounted p then Err Miscounted else Ok (acts (ready p)).next

abbrev pub moved : EpochState → Move
moved p = if is_miscounted p then record { state = p; next = Nothing } else acts (ready p)
