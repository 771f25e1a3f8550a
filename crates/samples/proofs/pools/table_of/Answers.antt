use Rattle.pool_samples.{proofs.Keeping.any_keeps, specs.Any.any_graph}
use Rattle.tp_graph.proofs.Left.{results_right}
use Rattle.samples.proofs.pools.table_of.Goals as goal

pub print_table-requires : goal.print_table-requires
print_table-requires c =
    rw c.deref.ensures.value
    (results_right (any_graph c.args.graph) c.args.outcome.now.results.items (any_keeps c.args.graph) c.requires.right)
