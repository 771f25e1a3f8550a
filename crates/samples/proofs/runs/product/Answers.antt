use Rattle.std.proofs.Common.{rules, subst}
use Rattle.pool_matrix.proofs.Refused.{product-graph, product_kept}
use Rattle.samples.proofs.runs.product.Goals as goal
use Rattle.tp_work.specs.Outcomes.{IsOutcome}

pub matrix_of-requires : goal.matrix_of-requires
matrix_of-requires g c =
    let p = c.in-Some.product in
    rw c.deref.ensures.value
    (product_kept c.args.config.nodes c.args.config.workers p.left.now p.right.now p.tiles p.side c.in-Ok.outcome c.in-Ok.ensures.outcome)

pub returns : goal.returns
returns g c =
    let product = c.in-Some.product in
    let graph = product-graph product.left.now product.right.now c.args.left.now c.args.right.now product.tiles product.side c.args.order
    c.args.side c.in-Some.ensures.right.some_side c.in-Some.ensures.made in (
      search rules,
      (
        c.in-Ok.outcome,
        subst (λ graph. IsOutcome c.args.config.nodes c.args.config.workers graph c.in-Ok.outcome) graph c.in-Ok.ensures.outcome,
      ),
    )
