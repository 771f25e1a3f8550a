use Rattle.std.proofs.Common.{rules}
use Rattle.tp_work.proofs.run_queue.BatchSize.of_ready.Goals as goal

pub returns-clause-places : goal.returns-clause-places
returns-clause-places c = search rules

pub returns-clause-same : goal.returns-clause-same
returns-clause-same c = search rules
