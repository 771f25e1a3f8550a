use Rattle.std.proofs.{Common.{Err, ap, sym, ◌∙◌}, lemmas.Result.err_from_is_err_and}
use Rattle.tp_board.{proofs.Turns.{at_error, at_first, at_root, then_next, unchanged}, specs.States.BoardState}
use Rattle.tp_wave.specs.{Generations.present_events, Machine.pending_at}
use Rattle.tp_board.proofs.turn.lead.Goals as goal

pub returns-in_err-turn : goal.returns-in_err-turn
returns-in_err-turn g c =
    let p = err_from_is_err_and c.from_residual.result c.from_residual.ensures.1 in
    at_error c.in_err-turn.ensures (p.1 ∙ ap Err p.2)

pub returns-in_default : goal.returns-in_default
returns-in_default g c = at_first c.in_ok-turn.ensures c.in_default.not-Idle

pub start-requires-clause-pending : goal.start-requires-clause-pending
start-requires-clause-pending g c =
    c.requires.pending
    ∙ ap (λ (b : BoardState). pending_at 0 (present_events b.history)) (sym (unchanged c.in_ok-turn.ensures c.in-Idle.is))

pub returns-in_err-turn-2 : goal.returns-in_err-turn-2
returns-in_err-turn-2 g c =
    let p = err_from_is_err_and c.from_residual-in_err-turn-2.result c.from_residual-in_err-turn-2.ensures.1 in
    then_next c.in_ok-turn.ensures c.in-Idle.is (at_error c.in_err-turn-2.ensures (p.1 ∙ ap Err p.2))

pub returns-in_default-2 : goal.returns-in_default-2
returns-in_default-2 g c = then_next c.in_ok-turn.ensures c.in-Idle.is (at_first c.in_ok-turn-2.ensures c.in_default-2.not-Idle)

pub returns : goal.returns
returns g c =
    let wave = at_root c.requires.root c.take_part.ensures in
    then_next c.in_ok-turn.ensures c.in-Idle.is (then_next c.in_ok-turn-2.ensures c.in-Idle-2.is wave)
