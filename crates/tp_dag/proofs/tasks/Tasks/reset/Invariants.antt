use Rattle.tp_dag.proofs.Lemmas.{◌≡◌, reset_to}
use Rattle.tp_dag.proofs.tasks.Tasks.reset.Given as goal

abbrev pub invariant-loop-number : goal.invariant-loop-number
invariant-loop-number l = l.self ≡ reset_to l.number l.fn.self
