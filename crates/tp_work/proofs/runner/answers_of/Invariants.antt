use Rattle.std.specs.Prelude.{◌≤◌, length}
use Rattle.tp_work.proofs.runner.answers_of.Given.{invariant-loop-handle as goal}

abbrev pub invariant-loop-handle : goal
invariant-loop-handle g l = l.answers.workers ≤ length l.yielded
