-- What contracts see of a board, and the checks of its calls.
use Rattle.std.specs.{Option.option_or, Prelude.{ℕ, ◌+◌, ◌-◌, ◌%◌, ◌≡◌, ◌<◌, ◌⊎◌, List, [], ◌∷◌, ◌++◌, length, Option, Some, Result, Err}}
use Rattle.std.specs.Prelude.{MatchOption, IfErr, nat_lt}
use Rattle.tp_base.specs.{Checks.{Check, first_refusal}, History.Event, declared.{ids.NodeId.NodeId, refusal.Refusal.Refusal}}
use Rattle.tp_base.specs.declared.{refusal.Refusal.TheVariants.{HistoryFull, NoMemory, NotIdle}, step.Step.{Step, TheVariants.Give}}
use Rattle.tp_board.specs.Numbers.{is_send}
use Rattle.tp_wave.specs.{ControlChecks.control_checks, Generations.{present, present_events}, Machine.{pending_at, steps_of}, Steps.count}

-- What contracts see of a board: its events, newest first, their limit, how many more have a reserved place and memory,
-- and the first fault that was set.
pub record BoardState : Type 0 where
  pub history : List Event
  pub limit : ℕ
  pub reserved : ℕ
  pub fault : Option Refusal

-- the board after one more event
abbrev pub with_event : Event → BoardState → BoardState
with_event e b = record { history = e ∷ b.history; limit = b.limit; reserved = b.reserved - 1; fault = b.fault }

-- the board after a place and memory for this many events were reserved
abbrev pub with_reserved : ℕ → BoardState → BoardState
with_reserved more b = record { history = b.history; limit = b.limit; reserved = more; fault = b.fault }

-- the board after a fault; it keeps only its first fault
abbrev pub with_fault : Refusal → BoardState → BoardState
with_fault f b = record { history = b.history; limit = b.limit; reserved = b.reserved; fault = option_or b.fault (Some f) }

-- Fewer than this many places are free.
abbrev pub full_check : ℕ → BoardState → Check
full_check more b = (nat_lt b.limit (length b.history + more), HistoryFull (length b.history))

-- A call that needs this many events and makes these checks returns the first refusal that applies. If none does, it
-- succeeds, or an allocation fails that it had to make.
abbrev pub IsCheckedFor : {A : Type 0} → List Check → ℕ → BoardState → Result A Refusal → Type 0
IsCheckedFor checks more b result =
    MatchOption (first_refusal checks) (IfErr result (λ e. (e ≡ NoMemory) × (b.reserved < more))) (λ e. result ≡ Err e)

-- A call fails to allocate only if the next event is the first of a piece of 1,024, in which a history is stored.
abbrev pub IsAtPiece : BoardState → Refusal → Type 0
IsAtPiece b e = e ≡ NoMemory → length b.history % 1024 ≡ 0

-- how many more events fit into the last piece of 1,024, if there are n
abbrev pub left_of_piece : ℕ → ℕ
left_of_piece n = (1024 - n % 1024) % 1024

-- A call that needs this many events fails to allocate only if fewer are left of the last piece of 1,024 events, or of
-- the last piece of 1,024 messages of the present generation.
abbrev pub IsPastPiece : ℕ → BoardState → Refusal → Type 0
IsPastPiece more b e =
    e ≡ NoMemory
    → (left_of_piece (length b.history) < more)
    ⊎ (left_of_piece (count is_send (present (steps_of b.history))) < more)

-- the checks of a control step for which no node has to be idle
abbrev pub step_checks : ℕ → BoardState → Step → List Check
step_checks n b s = control_checks n (present (steps_of b.history)) s ++ full_check 1 b ∷ []

-- the checks of a visit to node i: an active node gives nothing
abbrev pub visit_checks : ℕ → BoardState → NodeId → List Check
visit_checks n b i =
    control_checks n (present (steps_of b.history)) (Give i)
    ++ (nat_lt 0 (pending_at i.0 (present_events b.history)), NotIdle) ∷ full_check 1 b ∷ []
