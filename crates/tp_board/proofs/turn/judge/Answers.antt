use Rattle.tp_board.{proofs.Turns.judge_tried, specs.Judgements.is_over}
use Rattle.tp_board.proofs.turn.judge.Goals as goal

pub returns : goal.returns
returns g c =
    judge_tried c.judge.result is_over c.judge.ensures.over c.judge.ensures.ok c.judge.ensures.refusal c.judge.ensures.piece
    c.judge.ensures.refused c.judged.ensures
