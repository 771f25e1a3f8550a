use Rattle.std.proofs.Common.{◌≡◌, arith, subst, ◌<◌}
use Rattle.tp_board.proofs.Turns.{start_tried, start_active}
use Rattle.tp_wave.specs.{Generations.present_events, Machine.pending_at}
use Rattle.tp_board.proofs.turn.start.Goals as goal

pub returns-then-pending-gt0 : goal.returns-then-pending-gt0
returns-then-pending-gt0 g c = start_active _ _ _ (subst (λ p. 0 < p) c.requires.pending c.if-pending-gt0.true)

pub returns : goal.returns
returns g c =
    let idle : pending_at 0 (present_events c.args.board.now.history) ≡ 0 = omega arith in
    start_tried c.start.result idle c.start.ensures.ok c.start.ensures.refusal c.start.ensures.piece c.start.ensures.refused c.moved.ensures
