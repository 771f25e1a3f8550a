use Rattle.std.proofs.Common.{arith}
use Rattle.tp_board.proofs.{Counting.under_way-le, Further.told}
use Rattle.tp_wave.specs.Generations.{present_events}
use Rattle.tp_board.proofs.board.Board.audit_link.Goals as goal

pub returns-clause-under : goal.returns-clause-under
returns-clause-under g c = rw (← c.self.view_is) (omega (arith, c.audit_link.ensures.told, (told _ _ _ _ _ c.self.invariant).under))

pub returns-clause-small : goal.returns-clause-small
returns-clause-small g c =
    omega (
      arith,
      c.audit_link.ensures.told,
      c.self.invariant.now.under,
      under_way-le (present_events c.self.inside.event_log.history),
      c.self.invariant.now.short,
    )
