use Rattle.std.proofs.Common.{arith}
use Rattle.tp_wave.specs.Generations.{present_events}
use Rattle.tp_board.proofs.Counting.{few_now}
use Rattle.tp_board.proofs.event_log.EventLog.counts.Goals as goal

pub returns-clause-few : goal.returns-clause-few
returns-clause-few c =
    rw (c.of.ensures (present_events c.self.inside.history.events) c.self.invariant.counted)
    (few_now c.args.node.0 c.self.inside.history.events (omega (arith, c.self.invariant.places, c.self.invariant.limited)))
