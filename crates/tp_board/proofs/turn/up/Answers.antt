use Rattle.std.proofs.Common.{arith, ◌≤◌, ◌+◌, ◌*◌}
use Rattle.tp_board.proofs.Turns.{up_tried, up_outside}
use Rattle.tp_board.proofs.turn.up.Goals as goal

pub returns-then-child-nodes : goal.returns-then-child-nodes
returns-then-child-nodes g c =
    let outside : g.K.Ledgers.names.nodes ≤ 2 * c.args.shares.now.node + c.args.which =
    omega (arith, c.nodes-nodes.ensures.number, c.node.ensures.number, c.if-child-nodes.true) in
    up_outside _ _ _ _ outside

pub returns : goal.returns
returns g c =
    rw (← c.node.ensures.number)
    (up_tried c.up.result c.up.ensures.ok c.up.ensures.refusal c.up.ensures.piece c.up.ensures.refused c.moved.ensures)
