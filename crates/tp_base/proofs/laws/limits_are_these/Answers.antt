use Rattle.std.proofs.Common.{rules}
use Rattle.tp_base.proofs.laws.limits_are_these.Goals as goal

pub returns-clause-steps : goal.returns-clause-steps
returns-clause-steps c = search rules
