-- The totals of a pool's books.
use Rattle.std.specs.Prelude.{ℕ, ◌≡◌, ◌<◌, ◌≤◌, List, length, replicate, slice_index, slice_set}
use Rattle.tp_base.specs.declared.step.Step.{Step}
use Rattle.tp_wave.specs.Machine.{pending_after}
use Rattle.tp_board.specs.Numbers.{ShareNumbers, is_done, is_recv, is_send, plus_if}

-- The totals of the books: of each node's pending ledger, and of each other one.
pub record BookTotals : Type 0 where
  pub pending : List ℕ
  pub sent : ℕ
  pub received : ℕ
  pub done : ℕ
  pub under : ℕ
  pub judged : ℕ

-- the totals at first: each node's opening action is pending
abbrev pub first_totals : BookTotals
first_totals = record { pending = replicate 8 1; sent = 0; received = 0; done = 0; under = 0; judged = 0 }

-- the totals after a step of node i, apart from those of the messages in flight
abbrev pub totals_after : ℕ → Step → BookTotals → BookTotals
totals_after i s t =
    record {
      pending = slice_set t.pending i (pending_after s (slice_index t.pending i));
      sent = plus_if (is_send s) t.sent;
      received = plus_if (is_recv s) t.received;
      done = plus_if (is_done s) t.done;
      under = t.under;
      judged = t.judged;
    }

abbrev pub with_under : ℕ → BookTotals → BookTotals
with_under under t = record { pending = t.pending; sent = t.sent; received = t.received; done = t.done; under = under; judged = t.judged }

abbrev pub with_judged : ℕ → BookTotals → BookTotals
with_judged judged t = record { pending = t.pending; sent = t.sent; received = t.received; done = t.done; under = t.under; judged = judged }

-- A node's pending number is the book's, and each other number is at most the book's.
pub record IsBooked (n : ShareNumbers) (t : BookTotals) : Type 0 where
  pub known : n.node < length t.pending
  pub pending : n.pending ≡ slice_index t.pending n.node
  pub sent : n.sent ≤ t.sent
  pub received : n.received ≤ t.received
  pub done : n.done ≤ t.done
