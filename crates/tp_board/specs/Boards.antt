-- The invariant of a board.
use Rattle.std.specs.Prelude.{ℕ, ◌≡◌, ◌<◌, ◌≤◌, List, length, slice_index, if◌then◌else◌}
use Rattle.tp_base.specs.{History.Event, declared.step.Step.Step}
use Rattle.tp_board.specs.{Books.BookTotals, Numbers.{is_done, is_recv, is_send}}
use Rattle.tp_wave.specs.{Generations.{present_events, AreRuns}, Machine.{steps_of, pending_at, under_way, IsRun}, Steps.count}
use Rattle.tp_wave.specs.{Sums.is_ended, Wave.Follows, declared.wave.Wave.Wave}

-- how many termination tokens are issued: one, once termination was detected
abbrev pub ended_number : ℕ → List Step → ℕ
ended_number n steps = if is_ended n steps then 1 else 0

-- The invariant of a board within one generation: its events are a run on n nodes, the books have that run's numbers, and the
-- wave is in the state to which the run led.
pub record IsBoard (n nodes : ℕ) (h : List Event) (t : BookTotals) (wave : Wave) : Type 0 where
  pub nodes_are : nodes ≡ n
  pub some : 1 ≤ n
  pub few : n ≤ 8
  pub short : length h ≤ 1048576
  pub run : IsRun n h
  pub pending : (i : ℕ) → i < n → slice_index t.pending i ≡ pending_at i h
  pub sent : t.sent ≡ count is_send (steps_of h)
  pub received : t.received ≡ count is_recv (steps_of h)
  pub done : t.done ≡ count is_done (steps_of h)
  pub under : t.under ≡ under_way (steps_of h)
  pub judged : t.judged ≡ ended_number n (steps_of h)
  pub follows : Follows n (steps_of h) wave

-- Each generation of its history is a run on n nodes, within the limit, and its books and its wave are those of the present
-- generation.
pub record IsBoardOf (n nodes : ℕ) (h : List Event) (t : BookTotals) (wave : Wave) : Type 0 where
  pub now : IsBoard n nodes (present_events h) t wave
  pub runs : AreRuns n h
  pub whole : length h ≤ 1048576
