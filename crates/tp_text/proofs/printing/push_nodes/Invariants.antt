use Rattle.tp_text.proofs.Readings.{◌≡◌, ◌++◌, listed, node_lines}
use Rattle.tp_text.proofs.printing.push_nodes.Given as goal

abbrev pub invariant-loop-i : goal.invariant-loop-i
invariant-loop-i l = l.out.items ≡ l.fn.out.items ++ node_lines l.i (listed l.nodes)
