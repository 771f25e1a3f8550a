use Rattle.pool_samples.proofs.Keeping.{◌≡◌, length, take, IsIndex}
use Rattle.pool_samples.proofs.result_table.find.Given as goal

abbrev pub invariant-loop-task : goal.invariant-loop-task
invariant-loop-task l = record {
  long : length l.values ≡ length l.initial.values;
  found : IsIndex l.graph (take l.task-index l.results) l.values;
}
