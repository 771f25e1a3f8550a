use Rattle.std.proofs.Common.{rules}
use Rattle.tp_base.proofs.packed.Packed.new.Goals as goal

pub returns : goal.returns
returns c = search rules
