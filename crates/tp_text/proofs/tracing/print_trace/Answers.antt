use Rattle.tp_text.proofs.Readings.{sym, reverse-reverse, steps_of}
use Rattle.tp_text.proofs.tracing.print_trace.Goals as goal

pub printed-requires-clause-runs : goal.printed-requires-clause-runs
printed-requires-clause-runs c = (c.args.history.now.events, c.requires.run, sym (reverse-reverse (steps_of c.args.history.now.events)))
