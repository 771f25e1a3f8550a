use Rattle.tp_core.proofs.Lemmas.{AreDone, world_of}
use Rattle.tp_core.proofs.accepting.Core.next_left.Given as goal

-- No task with a number so far is left.
abbrev pub invariant-loop-number : goal.invariant-loop-number
invariant-loop-number l = AreDone l.fn.from l.number (world_of l.fn.self)
