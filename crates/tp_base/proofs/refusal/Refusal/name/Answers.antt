use Rattle.std.proofs.Common.{rules}
use Rattle.tp_base.proofs.refusal.Refusal.name.Goals as goal

pub returns-in-NoTask : goal.returns-in-NoTask
returns-in-NoTask c = search rules
