use Rattle.{std.proofs.Common.{sym, subst, arith}, tp_work.{proofs.Lemmas.{then_one, then_rests}, specs.RunQueues.BeginsEach}}
use Rattle.tp_work.proofs.run_queue.begin_works.Goals as goal

pub returns-in-Ok-None-clause-begun : goal.returns-in-Ok-None-clause-begun
returns-in-Ok-None-clause-begun g c =
    then_rests c.loop.works.items c.args.node.now c.loop.node c.begin.new.self c.args.board.now c.loop.board c.begin.new.board
    c.loop.invariant.began (rw c.in-Ok-None.field-0-is at c.in-Ok-None.ensures.begun).1

pub returns-in-Err-clause-begun : goal.returns-in-Err-clause-begun
returns-in-Err-clause-begun g c =
    then_rests c.loop.works.items c.args.node.now c.loop.node c.begin.new.self c.args.board.now c.loop.board c.begin.new.board
    c.loop.invariant.began c.in-Err.ensures.refused

pub loop-preserved : goal.loop-preserved
loop-preserved g c = record {
  room = let p = c.push_reserved.ensures.len in let q = c.push_reserved.ensures.capacity in let r = c.loop.invariant.room in
      let t = c.loop-test.true in omega (arith, p, q, r, t);
  few = let p = c.push_reserved.ensures.len in let r = c.loop.invariant.few in omega (arith, p, r);
  began = subst (λ ws. BeginsEach ws c.args.node.now c.begin.new.self c.args.board.now c.begin.new.board)
      (sym c.push_reserved.ensures.items)
      (then_one c.loop.works.items c.args.node.now c.loop.node c.begin.new.self c.args.board.now c.loop.board c.begin.new.board
      c.in-Ok-Some.work c.loop.invariant.began (rw c.in-Ok-Some.field-0-is at c.in-Ok-Some.ensures.begun));
}
