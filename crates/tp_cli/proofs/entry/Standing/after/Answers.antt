use Rattle.std.proofs.Common.{rules}
use Rattle.tp_cli.proofs.entry.Standing.after.Goals as goal

pub returns-in-Err : goal.returns-in-Err
returns-in-Err g c = search rules
