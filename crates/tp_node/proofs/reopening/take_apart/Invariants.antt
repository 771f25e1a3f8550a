use Rattle.std.specs.{List.{All, flat_map}, Prelude.{◌≡◌, ◌≤◌, ◌+◌, length, map, sum_by, vec_capacity, vec_len}, Vec.Iter.into_iter_items}
use Rattle.{tp_graph.specs.Left.AreResults, tp_node.specs.Nodes.{IsOfPool, anew}}
use Rattle.tp_node.proofs.reopening.take_apart.Given as goal

abbrev pub invariant-loop-node : goal.invariant-loop-node
invariant-loop-node g l =
    record {
      board : l.board ≡ l.initial.board;
      shares : l.shares.items ≡ map (λ n. n.numbers) l.yielded;
      unshared : l.unshared.items ≡ map anew l.yielded;
      pool : All (IsOfPool g.K.Ledgers.names.nodes) l.unshared.items;
      results : l.results.items ≡ flat_map (λ n. n.state.store.results) l.yielded;
      right : (graph : _) → All (λ n. n.graph ≡ graph) l.yielded → AreResults (g.G.Graph.meaning graph) l.results.items;
      shares_room : vec_len l.shares + length (into_iter_items l.node-iterator) ≤ vec_capacity l.shares;
      unshared_room : vec_len l.unshared + length (into_iter_items l.node-iterator) ≤ vec_capacity l.unshared;
      results_room : vec_len l.results + sum_by (λ n.
          length n.state.store.results) (into_iter_items l.node-iterator) ≤ vec_capacity l.results;
    }
