use Rattle.pool_samples.proofs.Keeping.{◌<◌, ℕ, IsTrue, get_or, false}
use Rattle.pool_samples.proofs.result_table.unknown.Given as goal

abbrev pub invariant-loop-rank : goal.invariant-loop-rank
invariant-loop-rank l = (k : ℕ) → k < l.rank → IsTrue (get_or l.known k false)
