use Rattle.tp_text.proofs.Readings.{reopened_over}
use Rattle.tp_text.proofs.reading.read_trace.Goals as goal

pub returns-clause-reopened : goal.returns-clause-reopened
returns-clause-reopened g c = reopened_over
