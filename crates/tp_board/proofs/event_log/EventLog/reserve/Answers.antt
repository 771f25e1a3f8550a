use Rattle.std.proofs.Common.{inr, arith, rules}
use Rattle.tp_board.proofs.{Answering.each_error, Routing.{event_log_sends, past_messages}}
use Rattle.tp_board.proofs.event_log.EventLog.reserve.Goals as goal

pub invariant_of-self-2 : goal.invariant_of-self-2
invariant_of-self-2 c = search rules

pub returns-in_err-reserve-clause-refusal : goal.returns-in_err-reserve-clause-refusal
returns-in_err-reserve-clause-refusal c = search rules

pub returns-in_err-reserve-2-clause-refusal : goal.returns-in_err-reserve-2-clause-refusal
returns-in_err-reserve-2-clause-refusal c = search rules

pub returns-clause-places : goal.returns-clause-places
returns-clause-places c = search rules

pub returns-clause-refusal : goal.returns-clause-refusal
returns-clause-refusal c = search rules

pub reserve-requires-2 : goal.reserve-requires-2
reserve-requires-2 c = record {
  countable = omega (arith, (event_log_sends _ _ _ _ _ _ c.self.invariant).1, c.self.invariant.places, c.max-reserved.ensures);
}

pub returns-in_err-reserve-2-clause-piece : goal.returns-in_err-reserve-2-clause-piece
returns-in_err-reserve-2-clause-piece c =
    let past =
    past_messages _ _ _ _ _ _ c.args.more _ c.self.invariant c.max-reserved.ensures c.in_err-reserve-2.ensures.grows
    c.in_err-reserve-2.ensures.pieces in
    rw (← c.self.view_is) (each_error c.from_residual-in_err-reserve-2.result (λ e memory. inr past))
