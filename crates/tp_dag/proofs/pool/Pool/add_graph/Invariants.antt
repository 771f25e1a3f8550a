use Rattle.tp_dag.proofs.Lemmas.{AddingTasks}
use Rattle.tp_dag.proofs.pool.Pool.add_graph.Given as goal

abbrev pub invariant-loop-t : goal.invariant-loop-t
invariant-loop-t l = AddingTasks (record { classes = l.classes; offsets = l.offsets; inputs = l.inputs }) l.t l.fn.self l.self
