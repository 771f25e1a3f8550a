use Rattle.tp_work.proofs.Lemmas.{◌≡◌, ◌∙◌, sym, ap, arith, NodeState, in_order-more}
use Rattle.std.proofs.lemmas.List.Elements.{All-more}
use Rattle.tp_work.proofs.locks.check_nodes.Goals as goal

pub loop-place-preserved : goal.loop-place-preserved
loop-place-preserved g c =
    let number : c.index-nodes-place.result.numbers.node ≡ c.loop-place.place = omega arith in
    let graph : c.index-nodes-place.result.graph ≡ c.args.graph.now = sym c.graph.ensures ∙ c.is_same.ensures.0 c.if-not-is_same.false in
    record {
      order = in_order-more (λ (s : NodeState _). s.numbers.node) c.args.nodes.now c.loop-place.place c.index-nodes-place.result
          c.loop-place-test.true
          (ap (λ (s : NodeState _). s.numbers.node) (sym c.index-nodes-place.is) ∙ number) c.loop-place.invariant.order;
      graph = All-more (λ (s : NodeState _). s.graph
          ≡ c.args.graph.now) c.args.nodes.now c.loop-place.place c.index-nodes-place.result c.loop-place-test.true
          c.loop-place.invariant.graph
          (ap (λ (s : NodeState _). s.graph) (sym c.index-nodes-place.is) ∙ graph);
    }
