use Rattle.tp_text.proofs.Readings.{ended_over, not_ended_claims, reopened_over}
use Rattle.tp_text.proofs.recount.audit.Goals as goal

pub returns-clause-ended : goal.returns-clause-ended
returns-clause-ended g c = ended_over

pub returns-clause-not_ended : goal.returns-clause-not_ended
returns-clause-not_ended g c = not_ended_claims

pub returns-clause-reopened : goal.returns-clause-reopened
returns-clause-reopened g c = reopened_over
