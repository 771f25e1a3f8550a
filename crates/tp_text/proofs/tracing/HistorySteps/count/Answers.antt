use Rattle.tp_text.proofs.Readings.{◌∙◌, sym, length-reverse, steps_of, length-steps_of}
use Rattle.tp_text.proofs.tracing.HistorySteps.count.Goals as goal

pub returns : goal.returns
returns c = c.len.ensures ∙ sym (length-steps_of c.args.self.now.events) ∙ sym (length-reverse (steps_of c.args.self.now.events))
