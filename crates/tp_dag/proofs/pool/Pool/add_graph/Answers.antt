use Rattle.tp_dag.proofs.Lemmas.{◌+◌, ◌<◌, length, arith, Graph, fault_at, task_at}
use Rattle.tp_dag.proofs.pool.Pool.add_graph.Goals as goal

pub returns-in-Err-clause-exact : goal.returns-in-Err-clause-exact
returns-in-Err-clause-exact c =
    let g : Graph = record { classes = c.args.classes.now; offsets = c.args.offsets.now; inputs = c.args.inputs.now } in
    let l : c.loop-t.t + 1 < length c.args.offsets.now = omega arith in fault_at g c.loop-t.t c.tasks-task.result c.class_of-class.result
    c.in-Err.refusal c.loop-t.invariant c.requires.empty c.tasks-task.ensures c.class_of-class.ensures l c.in-Err.ensures.exact

pub loop-t-preserved : goal.loop-t-preserved
loop-t-preserved c = let g : Graph = record { classes = c.args.classes.now; offsets = c.args.offsets.now; inputs = c.args.inputs.now } in
    task_at g c.loop-t.t c.class_of-class.result c.loop-t.invariant c.class_of-class.ensures c.in_default.ensures.none
    c.in_default.ensures.ok
