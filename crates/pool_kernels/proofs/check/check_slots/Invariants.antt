use Rattle.pool_kernels.specs.Plans.{AreFed}
use Rattle.pool_kernels.proofs.check.check_slots.Given as goal

abbrev pub invariant-loop-slot : goal.invariant-loop-slot
invariant-loop-slot g l = AreFed (g.P.Plan.plan l.plan) l.task.0 l.slot
