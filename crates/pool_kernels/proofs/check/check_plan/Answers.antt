use Rattle.pool_kernels.specs.Plans.{IsConnected}
use Rattle.std.proofs.Common.{arith, below_more}
use Rattle.pool_kernels.proofs.check.check_plan.Goals as goal

pub returns-in-Err-clause-refused : goal.returns-in-Err-clause-refused
returns-in-Err-clause-refused g c =
    c.in-Err.ensures.refused c.args.nodes (record {
      placed = λ u h. c.loop-task.invariant u (omega (arith, h, c.tasks-tasks.ensures, c.loop-task-test.false));
      lower = c.loop-task-2.invariant.connected;
      known = omega (arith, c.loop-task-2-test.true, c.tasks-tasks.ensures);
    })

pub loop-task-2-preserved : goal.loop-task-2-preserved
loop-task-2-preserved g c = record {
  connected = below_more (IsConnected (g.P.Plan.plan c.args.plan.now)) c.loop-task-2.task c.loop-task-2.invariant.connected
      c.in-Ok.ensures.connected;
  marks = c.in-Ok.ensures.marks;
}
