use Rattle.tp_dag.proofs.Lemmas.{ℕ, ◌<◌, NoneOf}
use Rattle.tp_dag.proofs.tasks.Tasks.find.Given as goal

abbrev pub invariant-loop-class : goal.invariant-loop-class
invariant-loop-class l = (k : ℕ) → k < l.class → NoneOf k l.self
