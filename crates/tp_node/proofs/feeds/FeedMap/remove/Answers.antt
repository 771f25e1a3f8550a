use Rattle.tp_node.proofs.{Finite.feeds-remove, feeds.FeedMap.remove.Goals.returns as goal}

pub returns : goal
returns c = rw (← c.self.view_is)
    (feeds-remove c.self.inside.feeds.entries c.remove.new.self.entries c.args.number c.remove.ensures.updates.0)
