use Rattle.std.specs.{List.All, Prelude.{◌≡◌, ◌+◌, ◌≤◌, length, map, vec_capacity, vec_len}, Vec.Iter.into_iter_items}
use Rattle.tp_node.{proofs.reopening.put_together.Given.invariant-loop-left as goal, specs.Nodes.IsOfPool}

abbrev pub invariant-loop-left : goal
invariant-loop-left g l =
    record {
      nodes : l.nodes.items ≡ l.yielded;
      shares : into_iter_items l.shares ≡ map (λ n. n.numbers) (into_iter_items l.left-iterator);
      pool : All (IsOfPool g.K.Ledgers.names.nodes) (into_iter_items l.left-iterator);
      room : vec_len l.nodes + length (into_iter_items l.left-iterator) ≤ vec_capacity l.nodes;
    }
