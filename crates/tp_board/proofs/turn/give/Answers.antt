use Rattle.tp_board.proofs.Turns.{give_tried}
use Rattle.tp_board.proofs.turn.give.Goals as goal

pub returns : goal.returns
returns g c = give_tried c.give.result c.give.ensures.ok c.give.ensures.refusal c.give.ensures.piece c.give.ensures.refused c.moved.ensures
