use Rattle.std.proofs.Common.{rules, suc, ◌≡◌, ◌+◌, ◌∙◌, refl, ap, arith, length, length-append, vec_len, sym, subst}
use Rattle.std.{proofs.lemmas.Iterator.{Adapters.YieldsList-from_vec, Consumers.YieldsList-end}, specs.{List.All, Prelude.List}}
use Rattle.{std.specs.Vec.Iter.into_iter_items, tp_node.specs.Nodes.counted_of}
use Rattle.tp_node.{proofs.Gathering.{All-of_map, mapped-more, results_left, results-more, results_of, right-more}, specs.Nodes.NodeState}
use Rattle.tp_work.proofs.gathered.take_nodes.Goals as goal

pub take_node-requires-clause-shares : goal.take_node-requires-clause-shares
take_node-requires-clause-shares g c κs within =
    let left : length (into_iter_items c.loop-node.node-iterator) ≡ suc (length (into_iter_items c.next.new.self)) =
    ap length c.in-Some.ensures.steps.0 in
    omega (arith, left, c.loop-node.invariant.shares_room)

pub take_node-requires-clause-results : goal.take_node-requires-clause-results
take_node-requires-clause-results g c κs within =
    let left = results_left c.in-Some.node (into_iter_items c.loop-node.node-iterator) _ c.in-Some.ensures.steps.0 in
    omega (arith, left, c.loop-node.invariant.results_room)

pub returns-clause-right : goal.returns-clause-right
returns-clause-right g c =
    let long : vec_len c.args.nodes ≡ length c.args.nodes.items = search rules in
    let gives = c.into_iter-node-iterator.ensures.into_iter_gives in
    let whole = YieldsList-end (YieldsList-from_vec c.args.nodes.items gives.0 (gives.1 ∙ long)) c.loop-node.yielded
    c.loop-node.node-iterator c.loop-node.yielded_by c.next.result c.next.new.self c.in-None.is c.next.ensures.steps in
    λ graph all.
    c.loop-node.invariant.right graph
    (All-of_map (λ (s : NodeState _). s.graph
    ≡ graph) (λ s. s) c.loop-node.yielded (subst (λ (nodes : List (NodeState _)). All (λ s. s.graph ≡ graph) nodes) (sym whole.0) all))

pub loop-node-preserved : goal.loop-node-preserved
loop-node-preserved g c =
    let more : vec_len c.take_node.new.results ≡ vec_len c.loop-node.results + length (results_of c.in-Some.node) =
    search rules ∙ ap length c.take_node.ensures.results ∙ length-append c.loop-node.results.items (results_of c.in-Some.node)
    ∙ search rules in
    let left = results_left c.in-Some.node (into_iter_items c.loop-node.node-iterator) _ c.in-Some.ensures.steps.0 in
    let put : vec_len c.take_node.new.shares ≡ vec_len c.loop-node.shares + 1 =
    search rules ∙ ap length c.take_node.ensures.shares ∙ length-append c.loop-node.shares.items _ ∙ search rules in
    let fewer : length (into_iter_items c.loop-node.node-iterator) ≡ suc (length (into_iter_items c.next.new.self)) =
    ap length c.in-Some.ensures.steps.0 in
    record {
      shares = mapped-more counted_of c.loop-node.yielded c.in-Some.node c.loop-node.shares.items _ _ c.loop-node.invariant.shares refl
          c.take_node.ensures.shares;
      results = results-more c.loop-node.yielded c.in-Some.node c.loop-node.results.items _ _ c.loop-node.invariant.results refl
          c.take_node.ensures.results;
      right =
          λ graph all.
          let both = right-more g.G.Graph.meaning graph c.loop-node.yielded c.in-Some.node c.loop-node.results.items
          (results_of c.in-Some.node) (c.loop-node.invariant.right graph) c.take_node.ensures.right all in
          rw c.take_node.ensures.results both;
      shares_room = omega (arith, put, fewer, c.loop-node.invariant.shares_room, c.take_node.ensures.room.0);
      results_room = omega (arith, more, left, c.loop-node.invariant.results_room, c.take_node.ensures.room.1);
    }
