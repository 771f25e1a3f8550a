use Rattle.tp_part.proofs.Theorems.{Released}
use Rattle.tp_part.proofs.pass.release_readers.Given as goal

abbrev pub invariant-loop-left : goal.invariant-loop-left
invariant-loop-left l = Released l.value l.fn.incoming l.incoming l.left l.fn.pool l.pool

abbrev pub decreases-loop-left : goal.decreases-loop-left
decreases-loop-left l = l.left
