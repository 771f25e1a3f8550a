use Rattle.std.proofs.Common.{rules}
use Rattle.tp_cli.proofs.registry.Registry.monitor.Goals as goal

pub returns-clause-moved : goal.returns-clause-moved
returns-clause-moved c = search rules
