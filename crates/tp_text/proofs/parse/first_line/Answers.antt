use Rattle.tp_text.proofs.Readings.{alike, unlike, no_nodes, no_count, no_counted, nodes_found}
use Rattle.tp_text.proofs.parse.first_line.Goals as goal

pub returns-then-ne : goal.returns-then-ne
returns-then-ne c = no_nodes _ _ _ c.first_word.ensures (unlike _ _ c.if-ne.ensures c.as_slice.ensures)

pub returns-in_err-operands : goal.returns-in_err-operands
returns-in_err-operands c = rw c.from_residual.ensures (no_count _ _ _ c.first_word.ensures c.in_err-operands.ensures)

pub returns-in_err-node_count : goal.returns-in_err-node_count
returns-in_err-node_count c =
    rw c.from_residual-in_err-node_count.ensures
    (no_counted _ _ _ c.in_ok-operands.operands c.in_ok-operands.rest.now c.first_word.ensures c.in_ok-operands.ensures
    c.in_err-node_count.ensures)

pub returns : goal.returns
returns c =
    nodes_found _ _ _ c.in_ok-operands.operands _ _ c.first_word.ensures (alike _ _ c.if-ne.ensures c.as_slice.ensures)
    c.in_ok-operands.ensures c.in_ok-node_count.ensures
