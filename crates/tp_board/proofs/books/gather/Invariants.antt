use Rattle.std.specs.{List.All, Prelude.{◌≡◌, ◌+◌, ◌*◌, ◌≤◌, vec_len, sum_by}}
use Rattle.tp_board.specs.Numbers.{ShareNumbers}
use Rattle.tp_wave.specs.{Generations.present_events, Machine.pending_at}
use Rattle.tp_board.proofs.books.gather.Given as goal

abbrev pub invariant-loop-next : goal.invariant-loop-next
invariant-loop-next g l =
    record {
      board : l.board ≡ l.fn.board;
      all : l.parts.parts + vec_len l.others ≡ vec_len l.fn.others + 1;
      sent : l.parts.sent + sum_by (λ (s : ShareNumbers). s.sent) l.others.items
          ≡ sum_by (λ (s : ShareNumbers). s.sent) l.fn.others.items + l.fn.first.sent;
      received : l.parts.received + sum_by (λ (s : ShareNumbers). s.received) l.others.items
          ≡ sum_by (λ (s : ShareNumbers). s.received) l.fn.others.items + l.fn.first.received;
      done : l.parts.done + sum_by (λ (s : ShareNumbers). s.done) l.others.items
          ≡ sum_by (λ (s : ShareNumbers). s.done) l.fn.others.items + l.fn.first.done;
      pending : l.pending + sum_by (λ (s : ShareNumbers). s.pending) l.others.items
          ≡ sum_by (λ (s : ShareNumbers). s.pending) l.fn.others.items + l.fn.first.pending;
      small : l.pending + vec_len l.others * 1048577 ≤ 8 * 1048577;
      agree : All (λ (s : ShareNumbers). s.pending ≡ pending_at s.node (present_events l.fn.board.history)) l.others.items
          → All (λ (s : ShareNumbers). s.pending ≡ pending_at s.node (present_events l.fn.board.history)) l.fn.others.items;
    }

abbrev pub decreases-loop-next : goal.decreases-loop-next
decreases-loop-next g l = vec_len l.others
