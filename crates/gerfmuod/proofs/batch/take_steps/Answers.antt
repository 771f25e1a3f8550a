use Rattle.gerfmuod.proofs.Steps.{arith, raw_step, after_one, stops_at}
use Rattle.gerfmuod.proofs.batch.take_steps.Goals as goal

pub returns-then-answer-ne0 : goal.returns-then-answer-ne0
returns-then-answer-ne0 c =
    let taken = rw c.step_of.ensures at c.take_step-answer.ensures.taken in
    stops_at c.args.steps.now c.args.answers.now c.args.room.now c.loop-count.count c.loop-count.answers c.loop-count.room
    (raw_step 0 0 0 0 0) c.take_step-answer.result c.take_step-answer.new.room (omega (arith, c.loop-count-test.true, c.loop-count.auto.count-end))
    c.requires c.loop-count.invariant (taken, c.take_step-answer.ensures.safe) c.if-answer-ne0.true

pub loop-count-preserved : goal.loop-count-preserved
loop-count-preserved c =
    let taken = rw c.step_of.ensures at c.take_step-answer.ensures.taken in
    after_one c.args.steps.now c.args.answers.now c.args.room.now c.loop-count.count c.loop-count.answers c.loop-count.room
    (raw_step 0 0 0 0 0) c.take_step-answer.result c.take_step-answer.new.room (omega (arith, c.loop-count-test.true, c.loop-count.auto.count-end))
    c.requires c.loop-count.invariant (taken, c.take_step-answer.ensures.safe) c.if-answer-ne0.false
