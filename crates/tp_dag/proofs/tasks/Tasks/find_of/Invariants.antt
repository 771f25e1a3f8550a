use Rattle.tp_dag.proofs.Lemmas.{ℕ, ◌<◌, IsFalse, slice_get, ready_at}
use Rattle.tp_dag.proofs.tasks.Tasks.find_of.Given as goal

abbrev pub invariant-loop-number : goal.invariant-loop-number
invariant-loop-number l = (u : ℕ) → u < l.number → IsFalse (ready_at l.class (slice_get l.self u))
