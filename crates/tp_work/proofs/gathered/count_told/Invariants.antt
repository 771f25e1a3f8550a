use Rattle.std.specs.{List.count_by, Prelude.{◌≡◌, ◌≤◌, take}}
use Rattle.tp_work.proofs.gathered.count_told.Given.{invariant-loop-node as goal}

abbrev pub invariant-loop-node : goal
invariant-loop-node g l = (l.told ≡ count_by (λ n. n.state.ended) (take l.node-index l.nodes)) × (l.told ≤ l.node-index)
