use Rattle.tp_board.proofs.Further.{within_all}
use Rattle.tp_board.proofs.board.Board.audit.Goals as goal

pub returns-clause-within : goal.returns-clause-within
returns-clause-within g c =
    rw (← c.self.view_is) (within_all _ _ _ _ _ _ c.self.invariant c.audit.ensures.told c.audit.ensures.node)
