use Rattle.{std.proofs.Common.rules, tp_work.proofs.series.answer_to.Goals.returns as goal}

pub returns : goal
returns c = search rules
