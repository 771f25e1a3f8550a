use Rattle.tp_text.proofs.Readings.{reverse, core_runs}
use Rattle.tp_text.proofs.tracing.print_steps.Goals as goal

pub printed-requires-clause-runs : goal.printed-requires-clause-runs
printed-requires-clause-runs c = core_runs c.args.nodes (reverse c.args.steps.now) c.requires.nodes.0 c.requires.runs
