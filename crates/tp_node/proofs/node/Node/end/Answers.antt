use Rattle.tp_node.proofs.Lemmas.{subst, sym, IsTrue, open_counts, has_message, NodeState}
use Rattle.tp_node.proofs.node.Node.end.Goals as goal

pub append_end-requires-clause-active : goal.append_end-requires-clause-active
append_end-requires-clause-active g c =
    open_counts _ _ _ _ c.args.message.0 c.self.invariant
    (subst (λ (n : NodeState g.row.G.Denot). IsTrue (has_message n.state.actions c.args.message.0)) (sym c.self.view_is) c.requires.open)
