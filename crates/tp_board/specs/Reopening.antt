-- The books and shares of a pool that is reopened.
use Rattle.std.specs.Prelude.{ℕ, ◌≡◌, ◌<◌, List, slice_index}
use Rattle.tp_board.specs.{Books.BookTotals, Numbers.{ShareNumbers, PendingNumber, first_pending, first_numbers}}

-- each of n pending books has the number
abbrev pub AllAre : ℕ → ℕ → List ℕ → Type 0
AllAre n number pending = (i : ℕ) → i < n → slice_index pending i ≡ number

-- The totals of n nodes are those of new ledgers: each node's opening action is pending.
pub record AreFirst (n : ℕ) (t : BookTotals) : Type 0 where
  pub pending : AllAre n 1 t.pending
  pub sent : t.sent ≡ 0
  pub received : t.received ≡ 0
  pub done : t.done ≡ 0
  pub judged : t.judged ≡ 0

-- the first numbers of the same node
abbrev pub begun_anew : ShareNumbers → ShareNumbers
begun_anew s = first_numbers s.node

abbrev pub opened_again : ShareNumbers → PendingNumber
opened_again s = first_pending s.node

abbrev pub with_numbers : PendingNumber → ShareNumbers
with_numbers p = first_numbers p.node
