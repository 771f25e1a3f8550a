use Rattle.tp_dag.proofs.Lemmas.{after_its_inputs}
use Rattle.tp_dag.proofs.laws.dispatched_after_its_inputs.Goals as goal

pub returns : goal.returns
returns c = after_its_inputs
