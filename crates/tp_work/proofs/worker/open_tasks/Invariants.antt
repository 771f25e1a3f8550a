use Rattle.std.specs.Prelude.{◌≡◌}
use Rattle.tp_work.proofs.worker.open_tasks.Given.{invariant-loop as goal}

abbrev pub invariant-loop : goal
invariant-loop g l = l.here.graph ≡ l.fn.here.graph
