use Rattle.std.proofs.Common.{rules}
use Rattle.tp_shell.proofs.options.count_of.Goals as goal

pub returns-clause-asked : goal.returns-clause-asked
returns-clause-asked c = search rules
