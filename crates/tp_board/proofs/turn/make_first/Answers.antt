use Rattle.std.proofs.Common.{sym, ◌∙◌}
use Rattle.tp_board.proofs.Turns.{turn_of_root}
use Rattle.tp_board.proofs.turn.make_first.Goals as goal

pub returns-then-node-eq0 : goal.returns-then-node-eq0
returns-then-node-eq0 g c = turn_of_root (sym c.node.ensures.number ∙ c.if-node-eq0.true) c.lead.ensures
