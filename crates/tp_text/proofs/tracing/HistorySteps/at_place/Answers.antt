use Rattle.tp_text.proofs.Readings.{◌∙◌, sym, some_event, step_at}
use Rattle.tp_text.proofs.tracing.HistorySteps.at_place.Goals as goal

pub unreachable-requires : goal.unreachable-requires
unreachable-requires c = some_event c.args.self.now.events c.args.place (sym c.at.ensures ∙ c.in_default.is) c.requires

pub returns : goal.returns
returns c = step_at c.args.self.now.events c.args.place (c.in-Some.field-0-0, c.in-Some.step) (sym c.at.ensures ∙ c.in-Some.is)
