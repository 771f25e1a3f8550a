use Rattle.{std.proofs.Common.{rules, tests}, tp_node.proofs.work.Finished.all_fed.Goals.returns as goal}

pub returns : goal
returns g c = search (rules, tests)
