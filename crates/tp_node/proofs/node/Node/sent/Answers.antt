use Rattle.{std.proofs.Common.{ap, sym, ◌∙◌}, tp_node.specs.Nodes.NodeState}
use Rattle.tp_node.proofs.node.Node.sent.Goals as goal

pub returns-clause-counted : goal.returns-clause-counted
returns-clause-counted g c = c.sent.ensures.sent ∙ ap (λ (n : NodeState g.row.G.Denot). n.state.sent) c.self.view_is

pub returns-clause-share : goal.returns-clause-share
returns-clause-share g c =
    c.sent.ensures.sent ∙ sym c.self.invariant.counted.sent ∙ ap (λ (n : NodeState g.row.G.Denot). n.numbers.sent) c.self.view_is
