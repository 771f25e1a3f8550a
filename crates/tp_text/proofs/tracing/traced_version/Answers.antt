use Rattle.tp_text.proofs.Readings.{ap, ◌∙◌, Some, next_none, second_version}
use Rattle.tp_text.proofs.tracing.traced_version.Goals as goal

pub loop-place-preserved : goal.loop-place-preserved
loop-place-preserved g c =
    next_none c.loop-place.place (g.S.Steps.listed c.args.steps.now) c.at_place.result c.at_place.ensures
    c.in_default.not-Reopen c.loop-place.invariant

pub returns-in-Reopen : goal.returns-in-Reopen
returns-in-Reopen g c =
    second_version c.loop-place.place (g.S.Steps.listed c.args.steps.now) (c.at_place.ensures ∙ ap (λ s. Some s) c.in-Reopen.is)
