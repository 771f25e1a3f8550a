use Rattle.tp_dag.proofs.Lemmas.{AddingInputs}
use Rattle.tp_dag.proofs.pool.Pool.add_inputs.Given as goal

abbrev pub invariant-loop-source : goal.invariant-loop-source
invariant-loop-source l = AddingInputs l.sources l.source-index l.fn.self l.self
