use Rattle.pool_samples.proofs.Keeping.{◌<◌, length, arith, sym, true, ◌∙◌, length-set, needed_few, mark_more, mark_set, some_same}
use Rattle.pool_samples.proofs.result_table.mark.Goals as goal

pub loop-task-preserved-in_default : goal.loop-task-preserved-in_default
loop-task-preserved-in_default c = record {
  long = c.loop-task.invariant.long;
  marked =
      mark_more c.args.graph c.args.results.now c.loop-task.task-index c.loop-task-item.result (omega arith) c.loop-task-item.is
      c.loop-task.known
      (λ rank h e. c.in_default.not-Some rank (c.rank.ensures.each rank h (sym e)))
      c.loop-task.invariant.marked;
}

pub loop-task-preserved : goal.loop-task-preserved
loop-task-preserved c =
    let within : c.in-Some.rank < length c.loop-task.known =
    omega (arith, c.loop-task.invariant.long, needed_few c.args.graph, c.in-Some.ensures.only.0) in
    record {
      long = length-set c.loop-task.known c.in-Some.rank true ∙ c.loop-task.invariant.long;
      marked =
          mark_set c.args.graph c.args.results.now c.loop-task.task-index c.loop-task-item.result (omega arith) c.loop-task-item.is
          c.loop-task.known c.in-Some.rank within c.in-Some.ensures.only.1
          (λ other h same. some_same (sym (c.in-Some.ensures.each other h same)))
          c.loop-task.invariant.marked;
    }
