use Rattle.std.proofs.Common.{◌∙◌, sym, arith}
use Rattle.tp_board.proofs.Further.{ended_told, quiet_out, told}
use Rattle.tp_wave.specs.{Generations.present, Machine.steps_of}
use Rattle.tp_board.proofs.board.Board.close.Goals as goal

pub overflow_sub-result : goal.overflow_sub-result
overflow_sub-result g c = omega (arith, c.totals-sent.ensures, (told _ _ _ _ _ c.self.invariant).balance)

pub returns-clause-under : goal.returns-clause-under
returns-clause-under g c =
    let all = told _ _ _ _ _ c.self.invariant in (
      omega (arith, c.totals-sent.ensures, all.balance),
      rw (← c.self.view_is) (omega (arith, c.totals-sent.ensures, all.balance, all.under)),
    )

pub returns-clause-balance : goal.returns-clause-balance
returns-clause-balance g c = omega (arith, c.totals-sent.ensures, (told _ _ _ _ _ c.self.invariant).balance)

pub returns-clause-quiet : goal.returns-clause-quiet
returns-clause-quiet g c =
    rw (← c.self.view_is) (λ yes. quiet_out _ _ _ _ _ c.self.invariant (omega (arith, c.is_ended-ended.ensures.out.0 yes)))

pub returns-clause-done : goal.returns-clause-done
returns-clause-done g c =
    let all = told _ _ _ _ _ c.self.invariant in
    (c.totals-sent.ensures.done ∙ sym all.done ∙ sym c.close.ensures.done, rw (← c.self.view_is) c.totals-sent.ensures.done)

pub returns-clause-sent : goal.returns-clause-sent
returns-clause-sent g c =
    let all = told _ _ _ _ _ c.self.invariant in
    (c.totals-sent.ensures.sent ∙ sym all.sent ∙ sym c.close.ensures.sent, rw (← c.self.view_is) c.totals-sent.ensures.sent)

pub returns-clause-received : goal.returns-clause-received
returns-clause-received g c =
    let all = told _ _ _ _ _ c.self.invariant in
    (c.totals-sent.ensures.received ∙ sym all.received ∙ sym c.close.ensures.received, rw (← c.self.view_is) c.totals-sent.ensures.received)

pub returns-clause-ended : goal.returns-clause-ended
returns-clause-ended g c =
    rw (← c.self.view_is)
    (ended_told g.K.Ledgers.names.nodes (present (steps_of c.self.inside.event_log.history)) _ c.is_ended-ended.ensures.out
    (told _ _ _ _ _ c.self.invariant).judged)
