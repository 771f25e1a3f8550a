use Rattle.{std.proofs.Common.{rules, tests}, tp_node.proofs.work.Finished.pass_on.Goals.returns as goal}

pub returns : goal
returns g c = search (rules, tests)
