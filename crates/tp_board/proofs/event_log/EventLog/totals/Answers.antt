use Rattle.std.proofs.Common.{◌∙◌, arith}
use Rattle.tp_wave.proofs.Generations.{steps-present}
use Rattle.tp_board.proofs.Routing.{event_log_sends}
use Rattle.tp_board.proofs.event_log.EventLog.totals.Goals as goal

pub overflow_cast-result : goal.overflow_cast-result
overflow_cast-result c = record { fits = omega (arith, c.len.ensures, (event_log_sends _ _ _ _ _ _ c.self.invariant).1) }

pub returns-clause-sent : goal.returns-clause-sent
returns-clause-sent c = rw (← c.self.view_is) (c.len.ensures ∙ (event_log_sends _ _ _ _ _ _ c.self.invariant).0)

pub returns-clause-received : goal.returns-clause-received
returns-clause-received c = rw (← c.self.view_is, ← steps-present c.self.inside.history.events) c.self.invariant.counted.received

pub returns-clause-done : goal.returns-clause-done
returns-clause-done c = rw (← c.self.view_is, ← steps-present c.self.inside.history.events) c.self.invariant.counted.done
