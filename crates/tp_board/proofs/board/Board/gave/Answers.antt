use Rattle.std.proofs.Common.{sym, ◌∙◌}
use Rattle.tp_board.proofs.Routing.{any_to}
use Rattle.tp_wave.specs.{Generations.present, Machine.steps_of}
use Rattle.tp_board.proofs.board.Board.gave.Goals as goal

pub returns-clause-to : goal.returns-clause-to
returns-clause-to g c =
    rw (← c.self.view_is) (λ yes.
    any_to c.args.from.0 c.args.to.0 c.args.message.0 (present (steps_of c.self.inside.event_log.history)) (sym c.gave.ensures ∙ yes))
