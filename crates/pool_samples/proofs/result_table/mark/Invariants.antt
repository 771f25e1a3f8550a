use Rattle.pool_samples.proofs.Keeping.{◌≡◌, length, take, IsMarked}
use Rattle.pool_samples.proofs.result_table.mark.Given as goal

abbrev pub invariant-loop-task : goal.invariant-loop-task
invariant-loop-task l = record {
  long : length l.known ≡ 4096;
  marked : IsMarked l.graph (take l.task-index l.results) l.known;
}
