use Rattle.std.proofs.Common.{◌≡◌, ℕ, ◌<◌, get_or}
use Rattle.tp_work.proofs.lives.clear.Given.{invariant-loop-stage as goal}

abbrev pub invariant-loop-stage : goal
invariant-loop-stage l = (k : ℕ) → k < l.stage-index → get_or l.stages k 0 ≡ 0
