use Rattle.std.specs.Prelude.{◌≡◌}
use Rattle.tp_work.proofs.worker.Worker.receive.Given.{invariant-loop-from as goal}

abbrev pub invariant-loop-from : goal
invariant-loop-from g l = l.here.graph ≡ l.fn.here.graph
