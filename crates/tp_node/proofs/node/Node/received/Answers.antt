use Rattle.{std.proofs.Common.{ap, sym, ◌∙◌}, tp_node.specs.Nodes.NodeState}
use Rattle.tp_node.proofs.node.Node.received.Goals as goal

pub returns-clause-counted : goal.returns-clause-counted
returns-clause-counted g c = c.received.ensures.received ∙ ap (λ (n : NodeState g.row.G.Denot). n.state.received) c.self.view_is

pub returns-clause-share : goal.returns-clause-share
returns-clause-share g c =
    c.received.ensures.received ∙ sym c.self.invariant.counted.received
    ∙ ap (λ (n : NodeState g.row.G.Denot). n.numbers.received) c.self.view_is
