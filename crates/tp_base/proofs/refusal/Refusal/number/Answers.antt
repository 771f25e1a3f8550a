use Rattle.std.proofs.Common.{rules}
use Rattle.tp_base.proofs.refusal.Refusal.number.Goals as goal

pub returns-in-WaveOpen : goal.returns-in-WaveOpen
returns-in-WaveOpen c = search rules
