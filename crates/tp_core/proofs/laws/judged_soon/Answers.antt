use Rattle.tp_core.proofs.Lemmas.{judged_soon}
use Rattle.tp_core.proofs.laws.judged_soon.Goals as goal

pub returns : goal.returns
returns c = judged_soon
