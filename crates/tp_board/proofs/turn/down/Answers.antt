use Rattle.tp_board.proofs.Turns.{down_tried}
use Rattle.tp_board.proofs.turn.down.Goals as goal

pub returns : goal.returns
returns g c = down_tried c.down.result c.down.ensures.ok c.down.ensures.refusal c.down.ensures.piece c.down.ensures.refused c.moved.ensures
