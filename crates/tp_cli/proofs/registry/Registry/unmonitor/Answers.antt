use Rattle.std.proofs.Common.{rules}
use Rattle.tp_cli.proofs.registry.Registry.unmonitor.Goals as goal

pub returns-clause-refusal : goal.returns-clause-refusal
returns-clause-refusal c = search rules
