use Rattle.tp_part.proofs.Theorems.{◌∙◌, sym, chain_some, chain_remove}
use Rattle.tp_part.proofs.edges.Edges.remove_newest.Goals as goal

pub set_head-requires : goal.set_head-requires
set_head-requires c = chain_some _ c.in-Some.edge c.self.invariant c.in-Some.ensures.items

pub invariant_of-self : goal.invariant_of-self
invariant_of-self c = chain_remove c.in-Some-pop.older c.in-Some.edge c.self.invariant c.in-Some.ensures.items
    c.in-Some-pop.ensures.items c.set_head.ensures

pub returns : goal.returns
returns c = (c.in-Some.edge, sym c.self.view_is ∙ c.in-Some.ensures.items)
