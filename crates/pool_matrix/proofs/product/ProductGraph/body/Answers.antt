use Rattle.pool_matrix.proofs.Refused.{matrix_graph, places_within}
use Rattle.pool_matrix.proofs.product.ProductGraph.body.Goals as goal

pub make_tile-requires-clause-places : goal.make_tile-requires-clause-places
unfolding Rattle.pool_matrix.specs.Matrices.matrix_graph
make_tile-requires-clause-places c =
    let p = c.args.self.now in
    places_within c.args.task.0 p.tiles p.side p.in_rules.some_tiles c.requires.known
