use Rattle.std.proofs.Common.{rules, tests}
use Rattle.tp_board.proofs.board.Board.new.Goals as goal

pub returns : goal.returns
returns g c = search (rules, tests)
