use Rattle.tp_node.proofs.{Finite.numbers-insert, numbers.NumberSet.insert.Goals.returns-clause-added as goal}

pub returns-clause-added : goal
returns-clause-added c =
    rw (← c.self.view_is) (numbers-insert c.self.inside.numbers.keys c.insert.new.self.keys c.args.number c.in_ok-insert.ensures.updates.0)
