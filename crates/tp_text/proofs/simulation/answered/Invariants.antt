use Rattle.tp_text.proofs.Readings.{List, length, Step, Takes}
use Rattle.tp_text.proofs.simulation.answered.Given as goal

abbrev pub invariant-loop-rest : goal.invariant-loop-rest
invariant-loop-rest l = (taken : List Step) × Takes l.version l.text l.nodes taken l.rest l.core l.out.items l.number

abbrev pub decreases-loop-rest : goal.decreases-loop-rest
decreases-loop-rest l = length l.rest
