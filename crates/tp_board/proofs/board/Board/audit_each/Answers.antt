use Rattle.std.proofs.{Common.{◌≡◌, ◌∙◌, ap, get_or, set, arith}, lemmas.List.{set-get_or, take_all, Elements.All-more}}
use Rattle.tp_board.specs.{Numbers.ShareNumbers, States.BoardState}
use Rattle.tp_wave.specs.{Generations.present_events, Machine.pending_at}
use Rattle.tp_board.proofs.board.Board.audit_each.Goals as goal

pub loop-next-preserved : goal.loop-next-preserved
loop-next-preserved g c =
    let P : ShareNumbers → Type 0 = λ s. s.pending ≡ 0 in
    let all = c.loop-next.shares in
    let i = c.loop-next.next-index in
    let next = c.next-item.result in
    let here = get_or all i next in
    let same : set all i c.audit.new.shares ≡ all = ap (set all i) c.audit.ensures.same.1 ∙ set-get_or all i next in
    let idle : P here =
    c.audit.ensures.pending ∙ ap (λ (b : BoardState). pending_at here.node (present_events b.history)) c.loop-next.invariant.board
    ∙ c.requires.idle here.node c.audit.ensures.node in
    record {
      board = c.audit.ensures.same.0 ∙ c.loop-next.invariant.board;
      shares = same ∙ c.loop-next.invariant.shares;
      idle = rw same (All-more P all i next (omega arith) c.loop-next.invariant.idle idle);
    }

pub returns-clause-idle : goal.returns-clause-idle
returns-clause-idle g c =
    rw (← c.loop-next.invariant.shares)
    (rw (take_all c.loop-next.next-index c.loop-next.shares (omega arith)) at c.loop-next.invariant.idle)
