use Rattle.tp_node.proofs.{Lemmas.begins_reserved, node.Node.begin.Goals.returns-clause-begun as goal}

pub returns-clause-begun : goal
returns-clause-begun g c =
    begins_reserved c.begin_next.result c.args.self.now c.begin_next.new.self c.args.board.now c.reserve.new.self c.begin_next.new.board 1
    c.in_ok-reserve.ensures.ok c.begin_next.ensures.begun
