use Rattle.tp_node.proofs.{Finite.feeds-insert, feeds.FeedMap.insert.Goals.returns-clause-put as goal}

pub returns-clause-put : goal
returns-clause-put c =
    rw (← c.self.view_is)
    (feeds-insert c.self.inside.feeds.entries c.insert.new.self.entries c.args.number c.args.feed c.in_ok-insert.ensures.updates.0)
