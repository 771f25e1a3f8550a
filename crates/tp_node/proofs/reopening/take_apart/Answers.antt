use Rattle.std.proofs.Common.{rules, suc, List, ◌≡◌, ◌∷◌, [], ◌∙◌, ap, arith, length, sym, subst, vec_len}
use Rattle.std.proofs.lemmas.{Iterator.{Adapters.YieldsList-from_vec, Consumers.YieldsList-end}, List.Elements.{All-append, All-cons}}
use Rattle.{std.{proofs.lemmas.List.Elements.All-nil, specs.{List.All, Vec.Iter.into_iter_items}}, tp_node.specs.Nodes.{NodeState, anew}}
use Rattle.tp_node.{proofs.Gathering.{All-of_map, mapped-more, results_left, results-more, results_of, right-more}, specs.Nodes.IsOfPool}
use Rattle.tp_node.proofs.reopening.take_apart.Goals as goal

pub put_behind-requires : goal.put_behind-requires
put_behind-requires g c =
    let more : vec_len c.apart-share.result.1 ≡ length (results_of c.in-Some.node) =
    search rules ∙ ap length c.apart-share.ensures.results in
    let left = results_left c.in-Some.node (into_iter_items c.loop-node.node-iterator) _ c.in-Some.ensures.steps.0 in
    omega (arith, more, left, c.loop-node.invariant.results_room)

pub returns-clause-right : goal.returns-clause-right
returns-clause-right g c =
    let long : vec_len c.args.nodes ≡ length c.args.nodes.items = search rules in
    let gives = c.into_iter-node-iterator.ensures.into_iter_gives in
    let whole = YieldsList-end (YieldsList-from_vec c.args.nodes.items gives.0 (gives.1 ∙ long)) c.loop-node.yielded
    c.loop-node.node-iterator c.loop-node.yielded_by c.next.result c.next.new.self c.in-None.is c.next.ensures.steps in
    λ graph all.
    c.loop-node.invariant.right graph
    (All-of_map (λ (s : NodeState _). s.graph
    ≡ graph) (λ s. s) c.loop-node.yielded (subst (λ (nodes : List (NodeState _)). All (λ s. s.graph ≡ graph) nodes) (sym whole.0) all))

pub loop-node-preserved : goal.loop-node-preserved
loop-node-preserved g c =
    let node = c.in-Some.node in
    let yielded = c.loop-node.yielded in
    let kept = c.loop-node.invariant in
    let more : vec_len c.apart-share.result.1 ≡ length (results_of node) = search rules ∙ ap length c.apart-share.ensures.results in
    let left = results_left node (into_iter_items c.loop-node.node-iterator) _ c.in-Some.ensures.steps.0 in
    let fewer : length (into_iter_items c.loop-node.node-iterator) ≡ suc (length (into_iter_items c.next.new.self)) =
    ap length c.in-Some.ensures.steps.0 in
    let P = IsOfPool g.K.Ledgers.names.nodes {G = g.row.G.Denot} in
    record {
      board = c.apart-share.ensures.board ∙ kept.board;
      shares = mapped-more (λ (n : NodeState g.row.G.Denot). n.numbers) yielded node c.loop-node.shares.items _ _ kept.shares
          c.apart-share.ensures.shares c.push_reserved.ensures.items;
      unshared = mapped-more (anew {G = g.row.G.Denot}) yielded node c.loop-node.unshared.items _ _ kept.unshared
          c.apart-share.ensures.unshared
          c.push_reserved-in-loop-node.ensures.items;
      pool =
          subst (All P) (sym c.push_reserved-in-loop-node.ensures.items)
          (All-append P c.loop-node.unshared.items (c.apart-share.result.2
          ∷ []) kept.pool (All-cons P c.apart-share.result.2 [] c.apart-share.ensures.pool (All-nil P)));
      results = results-more yielded node c.loop-node.results.items _ _ kept.results c.apart-share.ensures.results
          c.put_behind.ensures.items;
      right =
          λ graph all.
          let both = right-more g.G.Graph.meaning graph yielded node c.loop-node.results.items (results_of node) (kept.right graph)
          c.apart-share.ensures.right all in
          rw (c.put_behind.ensures.items, c.apart-share.ensures.results) both;
      shares_room = omega (arith, fewer, kept.shares_room, c.push_reserved.ensures.len, c.push_reserved.ensures.capacity);
      unshared_room = omega (
        arith,
        fewer,
        kept.unshared_room,
        c.push_reserved-in-loop-node.ensures.len,
        c.push_reserved-in-loop-node.ensures.capacity,
      );
      results_room = omega (arith, more, left, kept.results_room, c.put_behind.ensures.len, c.put_behind.ensures.room);
    }
