use Rattle.tp_node.proofs.Lemmas.{◌≡◌, arith, refl, sym, ap, ◌∙◌, rules, ShareNumbers, brings, none_first, sent_first, NodeState}
use Rattle.tp_node.proofs.node.Node.receive.Goals as goal

pub returns-in_default-clause-received : goal.returns-in_default-clause-received
returns-in_default-clause-received g c =
    (none_first _ c.in_default.ensures, (record { history = refl; limit = refl; reserved = omega arith; fault = refl }, refl), refl)

pub take-message-requires-clause-sent : goal.take-message-requires-clause-sent
take-message-requires-clause-sent g c κs within =
    sent_first _ c.in-Some.message.now _ _ _ c.in-Some.ensures (ap (λ b. b.history) c.audit.ensures.same.0
    ∙ ap (λ b. b.history) c.in_ok-reserve.ensures.ok) c.in_ok-check_message.ensures.sent

pub returns-clause-brought : goal.returns-clause-brought
returns-clause-brought g c =
    let new : NodeState g.row.G.Denot =
    record {
      graph = c.self.inside.graph;
      nodes = c.self.inside.nodes;
      state = c.receive.new.self;
      numbers = c.take-message.new.shares;
    } in
    let graph : c.in-Some.message.now.graph ≡ c.self.inside.graph =
    c.in_ok-check_message.ensures.graph ∙ sym (ap (λ (n : NodeState g.row.G.Denot). n.graph) c.self.view_is) in
    let place : c.args.pool_link.now.to ≡ c.take-message.new.shares.node =
    c.requires.to_here ∙ sym (ap (λ (n : NodeState g.row.G.Denot). n.numbers.node) c.self.view_is)
    ∙ sym (ap (λ (s : ShareNumbers). s.node) c.audit.ensures.same.1)
    ∙ sym (ap (λ (s : ShareNumbers). s.node) c.take-message.ensures.shares) in
    brings (λ graph.
    g.G.Graph.meaning graph) _ _ _ _ _ c.in-Some.message.now c.take-message.result c.receive-2.result _ new c.number-number.result
    c.feed-feed.result
    c.in-Some.ensures c.take-message.ensures.first c.receive-2.ensures c.number-number.ensures.same c.feed-feed.ensures.same
    c.in_ok-receive.ensures.received c.take-message.ensures.on_way
    graph c.self.invariant.nodes place

pub returns-clause-received : goal.returns-clause-received
returns-clause-received g c = search rules
