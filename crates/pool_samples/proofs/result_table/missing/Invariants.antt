use Rattle.pool_samples.proofs.Keeping.{◌<◌, ℕ, IsSome, get_or, None}
use Rattle.pool_samples.proofs.result_table.missing.Given as goal

abbrev pub invariant-loop-rank : goal.invariant-loop-rank
invariant-loop-rank l = (k : ℕ) → k < l.rank → IsSome (get_or l.values k None)
