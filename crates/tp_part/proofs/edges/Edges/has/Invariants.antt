use Rattle.tp_part.proofs.Theorems.{Searching}
use Rattle.tp_part.proofs.edges.Edges.has.Given as goal

abbrev pub invariant-loop-left : goal.invariant-loop-left
invariant-loop-left l = Searching l.value l.target l.self l.left

abbrev pub decreases-loop-left : goal.decreases-loop-left
decreases-loop-left l = l.left
