use Rattle.std.specs.Prelude.{◌≡◌}
use Rattle.tp_node.proofs.{Lemmas.HasBegun, node.Node.begin_each.Given.invariant-loop as goal}

abbrev pub invariant-loop : goal
invariant-loop g l = record {
  has : HasBegun l.fn.self l.fn.board l.counter l.self l.board l.works.items;
  capacity : l.works.capacity ≡ 8;
}
