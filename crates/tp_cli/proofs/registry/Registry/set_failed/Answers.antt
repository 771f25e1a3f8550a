use Rattle.std.proofs.Common.{rules}
use Rattle.tp_cli.proofs.registry.Registry.set_failed.Goals as goal

pub returns-clause-moved : goal.returns-clause-moved
returns-clause-moved c = search rules
