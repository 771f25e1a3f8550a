use Rattle.pool_samples.proofs.Keeping.{◌≡◌, ◌<◌, ℤ, List, Some, refl, length, arith, sym, ◌∙◌, subst, length-set, TaskId, value_of}
use Rattle.pool_samples.proofs.Keeping.{any_graph, index_more, index_set, some_same}
use Rattle.pool_samples.proofs.result_table.find.Goals as goal

pub loop-task-preserved-in_default : goal.loop-task-preserved-in_default
loop-task-preserved-in_default c = record {
  long = c.loop-task.invariant.long;
  found =
      index_more c.args.graph c.args.results.now c.loop-task.task-index c.loop-task-item.result (omega arith) c.loop-task-item.is
      c.loop-task.values
      (λ rank h e. c.in_default.not-Some rank (c.rank.ensures.each rank h (sym e)))
      c.loop-task.invariant.found;
}

pub loop-task-preserved : goal.loop-task-preserved
loop-task-preserved c =
    let within : c.in-Some.rank < length c.loop-task.values =
    omega (arith, c.loop-task.invariant.long, c.requires.room, c.in-Some.ensures.only.0) in
    let P : TaskId × List ℤ → Type 0 = λ x. value_of (any_graph c.args.graph) x.0.0 ≡ Some x.1 in
    record {
      long = length-set c.loop-task.values c.in-Some.rank _ ∙ c.loop-task.invariant.long;
      found =
          index_set c.args.graph c.args.results.now c.loop-task.task-index c.loop-task-item.result (omega arith) c.loop-task-item.is
          c.loop-task.values c.in-Some.rank _ within c.in-Some.ensures.only.1 refl
          (subst P (sym c.loop-task-item.is) (c.requires.right c.loop-task.task-index c.loop-task-item.result (omega arith)))
          (λ other h same. some_same (sym (c.in-Some.ensures.each other h same)))
          c.loop-task.invariant.found;
    }
