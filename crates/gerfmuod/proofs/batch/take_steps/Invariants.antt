use Rattle.gerfmuod.proofs.Steps.{AfterSteps}
use Rattle.gerfmuod.proofs.batch.take_steps.Given as goal

-- the steps so far were taken, and their results are written
abbrev pub invariant-loop-count : goal.invariant-loop-count
invariant-loop-count l = AfterSteps l.steps l.fn.answers l.fn.room l.count l.answers l.room
