use Rattle.pool_kernels.specs.Kernels.{kernel_graph}
use Rattle.std.proofs.Common.{subst}
use Rattle.tp_graph.{proofs.Left.results_kept, specs.{Found.HasEachOnce, Graphs.TaskGraph, Left.AreKept}}
use Rattle.pool_kernels.proofs.run.run_grid.Goals as goal

pub last_row-requires-clause-once : goal.last_row-requires-clause-once
unfolding Rattle.pool_kernels.specs.Grids.grid_graph
last_row-requires-clause-once g c =
    rw c.deref.ensures.value (λ κs l. subst (λ (h : TaskGraph). HasEachOnce h.tasks c.in-Ok.outcome.results.items) c.copied.ensures
    c.in-Ok.ensures.outcome.each_once)

pub last_row-requires-clause-right : goal.last_row-requires-clause-right
last_row-requires-clause-right g c =
    let t = c.copied.result.table.now in
    let graph = kernel_graph (g.P.Relation.relation t.relation t.width) (g.K.Kernel.rule c.copied.result.kernel) t.width t.steps in
    rw c.deref.ensures.value (λ κs l. subst (λ (h : TaskGraph). AreKept h c.in-Ok.outcome.results.items) c.copied.ensures
    (results_kept graph c.in-Ok.outcome.results.items c.in-Ok.ensures.outcome.right))
