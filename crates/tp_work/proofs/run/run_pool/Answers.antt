use Rattle.tp_work.proofs.{Lemmas.is_fault, run.run_pool.Goals.returns-in-Err-clause-fault as goal}

pub returns-in-Err-clause-fault : goal
returns-in-Err-clause-fault g c =
    is_fault c.args.config.nodes (g.G.Graph.meaning c.args.graph) c.in-Err.fault c.in-Err.ensures.fault
