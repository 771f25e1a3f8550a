use Rattle.tp_text.proofs.Readings.{IsFalse, any, is_reopen, oldest}
use Rattle.tp_text.proofs.tracing.traced_version.Given as goal

abbrev pub invariant-loop-place : goal.invariant-loop-place
invariant-loop-place g l = IsFalse (any is_reopen (oldest l.place (g.S.Steps.listed l.steps)))
