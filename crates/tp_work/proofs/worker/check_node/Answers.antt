use Rattle.{std.proofs.Common.rules, tp_work.proofs.worker.check_node.Goals.returns-clause-graph as goal}

pub returns-clause-graph : goal
returns-clause-graph g c = search rules
