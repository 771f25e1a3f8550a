use Rattle.tp_text.proofs.Readings.{nothing_is_sound}
use Rattle.tp_text.proofs.auditor.Auditor.new.Goals as goal

pub returns : goal.returns
returns c = record { sound = nothing_is_sound c.args.nodes; core = c.new.ensures; account = c.new-2.ensures c.args.nodes }
