use Rattle.pool_kernels.specs.Plans.{AreMarks, AreRight}
use Rattle.pool_kernels.proofs.check.check_feeds.Given as goal

abbrev pub invariant-loop-turn : goal.invariant-loop-turn
invariant-loop-turn g l = record {
  right : AreRight (g.P.Plan.plan l.plan) l.task.0 l.turn;
  marks : AreMarks (g.P.Plan.plan l.plan) l.task.0 l.turn l.taken;
}
