use Rattle.pool_kernels.specs.{Kernels.kernel_graph, Patterns.relates, Stirrings.stir_rule}
use Rattle.std.proofs.Common.{◌*◌}
use Rattle.tp_graph.proofs.Left.{results_kept}
use Rattle.samples.proofs.patterns.run_watched.Goals as goal

pub last_row-requires-clause-once : goal.last_row-requires-clause-once
unfolding Rattle.pool_kernels.specs.Grids.grid_graph
last_row-requires-clause-once g c = rw c.deref.ensures.value (λ κs. c.in-Ok.ensures.outcome.each_once)

pub last_row-requires-clause-right : goal.last_row-requires-clause-right
last_row-requires-clause-right g c =
    let t = c.args.grid.now.table.now in
    let graph = kernel_graph (relates t.relation t.width) (stir_rule c.args.grid.now.kernel.iterations) t.width t.steps in
    rw c.deref.ensures.value (λ κs. results_kept graph c.in-Ok.outcome.results.items c.in-Ok.ensures.outcome.right)
