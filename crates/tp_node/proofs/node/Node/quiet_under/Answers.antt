use Rattle.std.proofs.Common.{◌≡◌, ap, subst, ◌∙◌, arith, rules}
use Rattle.tp_wave.specs.{Generations.present_events, Machine.pending_at}
use Rattle.{tp_node.{proofs.Lemmas.each_once, specs.{Locals.EachOnce, Nodes.NodeState}}, tp_store.specs.Content.unfinished}
use Rattle.tp_node.proofs.node.Node.quiet_under.Goals as goal

pub returns-clause-each_once : goal.returns-clause-each_once
returns-clause-each_once g c =
    let node = c.self.inside.shares.node in
    let idle : pending_at node (present_events c.args.board.now.history) ≡ 0 = c.audit_ended.ensures.quiet.idle node c.audit.ensures.node in
    let pending : c.self.inside.shares.pending ≡ 0 =
    c.audit.ensures.pending ∙ ap (λ b. pending_at node (present_events b.history)) c.audit_ended.ensures.same ∙ idle in
    let none : unfinished c.self.inside.local.store ≡ 0 = omega (arith, pending, c.self.invariant.counted.pending) in
    subst (λ (n : NodeState g.row.G.Denot). EachOnce n.state.store) c.self.view_is (each_once _ c.results-results.ensures.sound none)

pub returns-clause-over : goal.returns-clause-over
returns-clause-over g c = search rules

pub returns-clause-terminated : goal.returns-clause-terminated
returns-clause-terminated g c = search rules
