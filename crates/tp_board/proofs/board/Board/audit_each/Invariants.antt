use Rattle.std.{proofs.Common.{◌≡◌, take}, specs.List.All}
use Rattle.tp_board.specs.Numbers.{ShareNumbers}
use Rattle.tp_board.proofs.board.Board.audit_each.Given as goal

abbrev pub invariant-loop-next : goal.invariant-loop-next
invariant-loop-next g l =
    record {
      board : l.self ≡ l.fn.self;
      shares : l.shares ≡ l.fn.shares;
      idle : All (λ (s : ShareNumbers). s.pending ≡ 0) (take l.next-index l.shares);
    }
