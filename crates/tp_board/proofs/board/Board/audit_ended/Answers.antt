use Rattle.tp_board.proofs.Further.{ended_now, quiet_out}
use Rattle.tp_board.proofs.board.Board.audit_ended.Goals as goal

pub returns-clause-ended : goal.returns-clause-ended
returns-clause-ended g c = rw (← c.self.view_is) (ended_now _ _ _ _ _ c.self.invariant c.audit_ended.ensures.told)

pub returns-clause-quiet : goal.returns-clause-quiet
returns-clause-quiet g c = rw (← c.self.view_is) (quiet_out _ _ _ _ _ c.self.invariant c.audit_ended.ensures.told)
