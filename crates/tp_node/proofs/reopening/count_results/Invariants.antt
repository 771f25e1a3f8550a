use Rattle.std.specs.Prelude.{◌≡◌, length, sum_by, take}
use Rattle.tp_node.proofs.reopening.count_results.Given.{invariant-loop-node as goal}

abbrev pub invariant-loop-node : goal
invariant-loop-node g l = l.count ≡ sum_by (λ n. length n.state.store.results) (take l.node-index l.nodes)
