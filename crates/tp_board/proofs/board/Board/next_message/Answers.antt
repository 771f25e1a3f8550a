use Rattle.std.proofs.Common.{rules, tests}
use Rattle.tp_board.proofs.board.Board.next_message.Goals as goal

pub returns : goal.returns
returns g c = search (rules, tests)
