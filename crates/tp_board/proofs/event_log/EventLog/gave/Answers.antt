use Rattle.std.{proofs.Common.{ap, ◌∙◌, reverse}, specs.Prelude.slice_get}
use Rattle.tp_board.{proofs.Routing.gave_by, specs.Routes.is_route}
use Rattle.tp_wave.specs.{Generations.present, Machine.steps_of}
use Rattle.tp_board.proofs.event_log.EventLog.gave.Goals as goal

pub returns : goal.returns
returns c =
    let i = c.args.from.0 in
    let j = c.args.to.0 in
    let m = c.args.message.0 in
    rw (← c.self.view_is) (c.has.ensures ∙ ap (λ rs. is_route i j (slice_get (reverse rs) m)) c.self.invariant.routed
    ∙ gave_by i j m (present (steps_of c.self.inside.history.events)) c.self.invariant.numbered)
