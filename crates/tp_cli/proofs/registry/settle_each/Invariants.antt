use Rattle.tp_cli.proofs.Settling.{AreSettledBelow}
use Rattle.tp_cli.proofs.registry.settle_each.Given as goal

abbrev pub invariant-loop-entry : goal.invariant-loop-entry
invariant-loop-entry g l = AreSettledBelow l.initial.answers.rest.now l.answers.rest.now l.initial.pools l.pools l.entry-index
