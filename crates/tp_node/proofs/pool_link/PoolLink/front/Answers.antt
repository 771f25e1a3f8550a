use Rattle.tp_node.proofs.{Lemmas.{ap, ◌∙◌, slice_get, PoolLinkState}, pool_link.PoolLink.front.Goals.returns as goal}

pub returns : goal
returns g c = c.front.ensures ∙ ap (λ (w : PoolLinkState g.row.G.Denot). slice_get w.messages 0) c.self.view_is
