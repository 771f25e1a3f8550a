use Rattle.tp_board.proofs.Boards.{agree_last}
use Rattle.tp_board.proofs.books.close_books.Goals as goal

pub returns-clause-each_pending : goal.returns-clause-each_pending
returns-clause-each_pending g c =
    rw (← c.no_links-none.ensures.same)
    (agree_last _ _ _ _ c.in-Some.ensures.items c.gather-pending.ensures.first_pending c.gather-pending.ensures.each_pending)
