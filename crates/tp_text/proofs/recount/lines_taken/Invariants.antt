use Rattle.tp_text.proofs.Readings.{List, length, TraceLine, Knows, Reads}
use Rattle.tp_text.proofs.recount.lines_taken.Given as goal

abbrev pub invariant-loop-rest : goal.invariant-loop-rest
invariant-loop-rest l = (lines : List TraceLine) × Reads l.version l.text l.nodes lines l.rest l.number × Knows l.nodes lines l.auditor

abbrev pub decreases-loop-rest : goal.decreases-loop-rest
decreases-loop-rest l = length l.rest
