use Rattle.tp_node.proofs.{Finite.numbers-remove, numbers.NumberSet.remove.Goals.returns as goal}

pub returns : goal
returns c = rw (← c.self.view_is)
    (numbers-remove c.self.inside.numbers.keys c.remove.new.self.keys c.args.number c.remove.ensures.updates.0)
