use Rattle.{std.proofs.Common.rules, tp_work.proofs.locks.check_pool_link.Goals.returns-clause-to as goal}

pub returns-clause-to : goal
returns-clause-to g c = search rules
