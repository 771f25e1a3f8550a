use Rattle.tp_slots.proofs.Naming.{Tells-start}
use Rattle.tp_slots.proofs.run.Names.new.Goals as goal

pub returns : goal.returns
returns c = rw c.new.ensures.items (Tells-start _)
