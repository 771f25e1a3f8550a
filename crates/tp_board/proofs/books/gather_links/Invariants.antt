use Rattle.std.specs.Prelude.{◌≡◌, ◌+◌, vec_len, sum_by}
use Rattle.tp_board.specs.Numbers.{LinkNumbers}
use Rattle.tp_board.proofs.books.gather_links.Given as goal

abbrev pub invariant-loop-next : goal.invariant-loop-next
invariant-loop-next g l =
    (l.all.parts + vec_len l.links ≡ vec_len l.fn.links)
    × (l.all.amount + sum_by (λ (x : LinkNumbers). x.under) l.links.items ≡ sum_by (λ (x : LinkNumbers). x.under) l.fn.links.items)

abbrev pub decreases-loop-next : goal.decreases-loop-next
decreases-loop-next g l = vec_len l.links
