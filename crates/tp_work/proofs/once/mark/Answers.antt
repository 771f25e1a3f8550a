use Rattle.{std.proofs.Common.rules, tp_work.proofs.once.mark.Goals.returns-clause-fresh as goal}

pub returns-clause-fresh : goal
returns-clause-fresh c = search rules
