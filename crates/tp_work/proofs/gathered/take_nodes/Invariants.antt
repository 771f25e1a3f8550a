use Rattle.std.specs.{List.{All, flat_map}, Prelude.{◌≡◌, ◌≤◌, ◌+◌, length, map, sum_by, vec_capacity, vec_len}, Vec.Iter.into_iter_items}
use Rattle.{tp_graph.specs.Left.AreResults, tp_node.specs.Nodes.counted_of}
use Rattle.tp_work.proofs.gathered.take_nodes.Given as goal

abbrev pub invariant-loop-node : goal.invariant-loop-node
invariant-loop-node g l =
    record {
      shares : l.shares.items ≡ map counted_of l.yielded;
      results : l.results.items ≡ flat_map (λ n. n.state.store.results) l.yielded;
      right : (graph : _) → All (λ n. n.graph ≡ graph) l.yielded → AreResults (g.G.Graph.meaning graph) l.results.items;
      shares_room : vec_len l.shares + length (into_iter_items l.node-iterator) ≤ vec_capacity l.shares;
      results_room : vec_len l.results + sum_by (λ n.
          length n.state.store.results) (into_iter_items l.node-iterator) ≤ vec_capacity l.results;
    }
