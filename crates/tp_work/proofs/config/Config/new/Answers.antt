use Rattle.std.proofs.Common.{rules}
use Rattle.tp_work.proofs.config.Config.new.Goals as goal

pub returns-clause-idle_turns : goal.returns-clause-idle_turns
returns-clause-idle_turns c = search rules

pub returns-clause-workers : goal.returns-clause-workers
returns-clause-workers c = search rules
