use Rattle.std.proofs.{Common.{Err, ap, ◌∙◌}, lemmas.Result.err_from_is_err_and}
use Rattle.tp_board.proofs.Turns.{at_error, at_first, then_next}
use Rattle.tp_board.proofs.turn.take_part.Goals as goal

pub returns-in_err-turn : goal.returns-in_err-turn
returns-in_err-turn g c =
    let p = err_from_is_err_and c.from_residual.result c.from_residual.ensures.1 in
    at_error c.in_err-turn.ensures (p.1 ∙ ap Err p.2)

pub returns-in_default : goal.returns-in_default
returns-in_default g c = at_first c.in_ok-turn.ensures c.in_default.not-Idle

pub returns-in_err-turn-2 : goal.returns-in_err-turn-2
returns-in_err-turn-2 g c =
    let p = err_from_is_err_and c.from_residual-in_err-turn-2.result c.from_residual-in_err-turn-2.ensures.1 in
    then_next c.in_ok-turn.ensures c.in-Idle.is (at_error c.in_err-turn-2.ensures (p.1 ∙ ap Err p.2))

pub returns-in_default-2 : goal.returns-in_default-2
returns-in_default-2 g c = then_next c.in_ok-turn.ensures c.in-Idle.is (at_first c.in_ok-turn-2.ensures c.in_default-2.not-Idle)

pub returns-in_err-turn-3 : goal.returns-in_err-turn-3
returns-in_err-turn-3 g c =
    let p = err_from_is_err_and c.from_residual-in_err-turn-3.result c.from_residual-in_err-turn-3.ensures.1 in
    then_next c.in_ok-turn.ensures c.in-Idle.is
    (then_next c.in_ok-turn-2.ensures c.in-Idle-2.is (at_error c.in_err-turn-3.ensures (p.1 ∙ ap Err p.2)))

pub returns-in_default-3 : goal.returns-in_default-3
returns-in_default-3 g c =
    then_next c.in_ok-turn.ensures c.in-Idle.is
    (then_next c.in_ok-turn-2.ensures c.in-Idle-2.is (at_first c.in_ok-turn-3.ensures c.in_default-3.not-Idle))

pub returns : goal.returns
returns g c =
    then_next c.in_ok-turn.ensures c.in-Idle.is
    (then_next c.in_ok-turn-2.ensures c.in-Idle-2.is (then_next c.in_ok-turn-3.ensures c.in-Idle-3.is c.give.ensures))
