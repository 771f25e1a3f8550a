use Rattle.std.proofs.Common.{rules}
use Rattle.tp_base.proofs.table.Table.insert.Goals as goal

pub returns-then-key-ge-NEAR-clause-grows : goal.returns-then-key-ge-NEAR-clause-grows
returns-then-key-ge-NEAR-clause-grows g c = search rules
