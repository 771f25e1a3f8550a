-- The numbers that a board counts along with its history.
use Rattle.std.specs.Prelude.{ℕ, ◌≡◌, ◌<◌, ◌≤◌, List, Some, slice_get}
use Rattle.tp_base.specs.{History.Event, declared.step.Step.Step}
use Rattle.tp_board.specs.{Numbers.{is_done, is_recv, is_send, plus_if}, declared.counts.{Counts.Counts, NodeCounts.NodeCounts}}
use Rattle.tp_wave.specs.{Machine.{steps_of, pending_at, pending_after}, Steps.{count, is_send_of, is_recv_at}}

-- the numbers of node i in the history
abbrev pub counts_at : ℕ → List Event → NodeCounts
counts_at i h =
    record {
      pending = pending_at i h;
      sent = count (is_send_of i) (steps_of h);
      received = count (is_recv_at i) (steps_of h);
    }

-- the same after one more step of the node
abbrev pub counts_after : Step → NodeCounts → NodeCounts
counts_after s c =
    record { pending = pending_after s c.pending; sent = plus_if (is_send s) c.sent; received = plus_if (is_recv s) c.received }

-- One more of each is within the limits.
pub record AreFew (c : NodeCounts) : Type 0 where
  pub pending : c.pending ≤ 1048577
  pub sent : c.sent ≤ 1048576
  pub received : c.received ≤ 1048576

-- These are the numbers of the history.
pub record AreCountsOf (h : List Event) (c : Counts) : Type 0 where
  pub nodes : (i : ℕ) → i < 8 → slice_get c.nodes i ≡ Some (counts_at i h)
  pub received : c.received ≡ count is_recv (steps_of h)
  pub done : c.done ≡ count is_done (steps_of h)
