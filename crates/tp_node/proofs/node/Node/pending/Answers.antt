use Rattle.{std.proofs.Common.{ap, sym, ◌∙◌}, tp_node.specs.{Locals.pending_here, Nodes.NodeState}}
use Rattle.tp_node.proofs.node.Node.pending.Goals as goal

pub returns-clause-counted : goal.returns-clause-counted
returns-clause-counted g c = c.pending.ensures.pending ∙ ap (λ (n : NodeState g.row.G.Denot). pending_here n.state) c.self.view_is

pub returns-clause-share : goal.returns-clause-share
returns-clause-share g c =
    c.pending.ensures.pending ∙ sym c.self.invariant.counted.pending
    ∙ ap (λ (n : NodeState g.row.G.Denot). n.numbers.pending) c.self.view_is
