use Rattle.{tp_node.proofs.{Lemmas.{ap, ◌∙◌, NodeState}, node.Node.counts.Goals.returns as goal}, tp_store.specs.Content.counts_of}

pub returns : goal
returns g c = c.counts.ensures ∙ ap (λ (n : NodeState g.row.G.Denot). counts_of n.state.store) c.self.view_is
