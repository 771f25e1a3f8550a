use Rattle.tp_text.proofs.Readings.{traces_read_back}
use Rattle.tp_text.proofs.laws.traces_are_read_back.Goals as goal

pub returns : goal.returns
returns c = traces_read_back
