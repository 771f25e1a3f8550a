use Rattle.pool_kernels.specs.Plans.{AreMarks, IsConnected, IsPlaced}
use Rattle.std.proofs.Common.{◌<◌, ℕ}
use Rattle.pool_kernels.proofs.check.check_plan.Given as goal

abbrev pub invariant-loop-task : goal.invariant-loop-task
invariant-loop-task g l = (u : ℕ) → u < l.task → IsPlaced (g.P.Plan.plan l.plan) l.nodes u

abbrev pub invariant-loop-task-2 : goal.invariant-loop-task-2
invariant-loop-task-2 g l = record {
  connected : (u : ℕ) → u < l.task → IsConnected (g.P.Plan.plan l.plan) u;
  marks : AreMarks (g.P.Plan.plan l.plan) l.task 0 l.taken;
}
