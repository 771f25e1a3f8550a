use Rattle.{std.proofs.Common.rules, tp_work.proofs.lives.advance.Goals.returns-clause-next as goal}

pub returns-clause-next : goal
returns-clause-next c = search rules
