use Rattle.tp_part.proofs.Theorems.{vec_capacity, arith, pass_end, posted_start, posted_room, posted_next, posted_end}
use Rattle.tp_part.proofs.pass.post_messages.Goals as goal

pub loop-left-init : goal.loop-left-init
loop-left-init c = posted_start c.args.value c.args.outgoing.now c.newest-left.result c.args.outbox.now.items
    (vec_capacity c.args.outbox.now) c.newest-left.ensures c.requires.room

pub push_reserved-requires : goal.push_reserved-requires
push_reserved-requires c = omega (arith, posted_room c.loop-left.invariant c.loop-left-test.true, c.loop-left.outbox.ok.0)

pub loop-left-preserved : goal.loop-left-preserved
loop-left-preserved c = posted_next c.loop-left.invariant
    c.loop-left-test.true c.pass.ensures.passed c.older-left.ensures.older c.push_reserved.ensures.items c.push_reserved.ensures.capacity

pub returns-clause-passed : goal.returns-clause-passed
returns-clause-passed c = pass_end c.args.value c.args.outgoing.now c.loop-left.outgoing c.loop-left.left c.loop-left.invariant.passing
    (omega (arith, c.loop-left-test.false))

pub returns-clause-posted : goal.returns-clause-posted
returns-clause-posted c = posted_end c.loop-left.invariant (omega (arith, c.loop-left-test.false))
