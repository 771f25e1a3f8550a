use Rattle.tp_dag.proofs.Lemmas.{◌<◌, ◌∙◌, length, ap, arith, TaskList, reset_at}
use Rattle.tp_dag.proofs.tasks.Tasks.reset.Goals as goal

pub loop-number-preserved : goal.loop-number-preserved
loop-number-preserved c = let l : c.loop-number.number < length c.args.self.now = (let v = ap (λ (xs : TaskList).
    length xs) c.self.view_is in omega (arith, c.len-number-end.ensures, c.self.inside.items.ok.0, c.loop-number-test.true)) in
    c.put.ensures ∙ reset_at c.args.self.now c.loop-number.number c.at-was.result c.loop-number.invariant l c.at-was.ensures
