use Rattle.tp_text.proofs.Readings.{All, IsSpelled, oldest}
use Rattle.tp_text.proofs.tracing.has_lines.Given as goal

abbrev pub invariant-loop-place : goal.invariant-loop-place
invariant-loop-place g l = All (IsSpelled l.version) (oldest l.place (g.S.Steps.listed l.steps))
