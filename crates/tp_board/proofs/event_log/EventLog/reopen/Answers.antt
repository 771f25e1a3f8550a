use Rattle.std.proofs.Common.{arith}
use Rattle.tp_wave.specs.Steps.{is_reopen}
use Rattle.tp_board.proofs.Counting.{count-le}
use Rattle.tp_board.proofs.event_log.EventLog.reopen.Goals as goal

pub overflow_add-self : goal.overflow_add-self
overflow_add-self c =
    record {
      fits = omega (
        arith,
        c.self.invariant.generation_is,
        count-le is_reopen c.self.inside.history.events,
        c.self.invariant.places,
        c.self.invariant.limited,
      );
    }
