-- The theorem that `each_epoch` names.
use Rattle.tp_process.proofs.Network.{epochs}
use Rattle.tp_process.proofs.laws.each_epoch.Goals as goal

pub returns-clause-epochs : goal.returns-clause-epochs
returns-clause-epochs c = epochs
