use Rattle.tp_node.proofs.{Lemmas.{ap, length, ◌∙◌, PoolLinkState}, pool_link.PoolLink.len.Goals.returns as goal}

pub returns : goal
returns g c = c.len.ensures ∙ ap (λ (w : PoolLinkState g.row.G.Denot). length w.messages) c.self.view_is
