use Rattle.tp_node.proofs.{Lemmas.pool_link_without, pool_link.PoolLink.take.Goals.invariant_of-self as goal}

pub invariant_of-self : goal
invariant_of-self g c =
    pool_link_without _ _ _ _ _ _ c.in-Some.message c.self.invariant c.in-Some.ensures.first c.get.ensures.ends c.in-Ok.ensures.link
