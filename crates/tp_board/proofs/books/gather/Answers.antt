use Rattle.std.proofs.{Common.{ap, ◌∙◌, arith}, lemmas.Grind.common_steps}
use Rattle.tp_board.{proofs.Boards.agree_last, specs.States.BoardState}
use Rattle.tp_wave.specs.{Generations.present_events, Machine.pending_at}
use Rattle.tp_board.proofs.books.gather.Goals as goal

pub loop-next-preserved : goal.loop-next-preserved
loop-next-preserved g c =
    let same = ap (λ (b : BoardState). pending_at c.in-Some.next.node (present_events b.history)) c.loop-next.invariant.board in
    record {
      board = c.pending-pending-in-Some.ensures.same.0 ∙ c.loop-next.invariant.board;
      all = grind (arith, common_steps);
      sent = grind (arith, common_steps);
      received = grind (arith, common_steps);
      done = grind (arith, common_steps);
      pending = grind (arith, common_steps);
      small = grind (arith, common_steps);
      agree = λ rest.
          c.loop-next.invariant.agree
          (agree_last (present_events c.args.board.now.history) c.pop.new.self.items c.loop-next.others.items c.in-Some.next
          c.in-Some.ensures.items (c.pending-pending-in-Some.ensures.agrees ∙ same) rest);
    }
