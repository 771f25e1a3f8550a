use Rattle.pool_matrix.proofs.Refused.{rules, subst, product-graph, product_kept, product_refused, IsFault, IsOutcome}
use Rattle.pool_matrix.proofs.run.run_product.Goals as goal

pub matrix_of-requires : goal.matrix_of-requires
matrix_of-requires g c =
    let p = c.in-Some.product in
    rw c.deref.ensures.value
    (product_kept c.args.config.nodes c.args.config.workers p.left.now p.right.now p.tiles p.side c.in-Ok.outcome c.in-Ok.ensures.outcome)

pub unreachable-requires : goal.unreachable-requires
unreachable-requires g c =
    let product = c.in-Some.product in
    c.in_default-refusal.not-NoMemory
    (product_refused product.left.now product.right.now product.tiles product.side c.in-Ok.outcome.results.items
    c.in-Err-matrix_of.refusal c.in-Ok.ensures.outcome.each_once
    (rw c.deref.ensures.value at c.in-Err-matrix_of.ensures.refused))

pub returns-in-NoMemory : goal.returns-in-NoMemory
returns-in-NoMemory g c =
    let product = c.in-Some.product in
    let graph = product-graph product.left.now product.right.now c.args.left.now c.args.right.now product.tiles product.side c.args.order
    c.args.side c.in-Some.ensures.right.some_side c.in-Some.ensures.made in
    subst (λ graph. IsOutcome c.args.config.nodes c.args.config.workers graph c.in-Ok.outcome) graph c.in-Ok.ensures.outcome

pub returns-in-Err : goal.returns-in-Err
returns-in-Err g c =
    let product = c.in-Some.product in
    let graph = product-graph product.left.now product.right.now c.args.left.now c.args.right.now product.tiles product.side c.args.order
    c.args.side c.in-Some.ensures.right.some_side c.in-Some.ensures.made in
    subst (λ graph. IsFault c.args.config.nodes graph c.in-Err.fault) graph c.in-Err.ensures.fault

pub returns-in-Ok-matrix_of : goal.returns-in-Ok-matrix_of
returns-in-Ok-matrix_of g c =
    let product = c.in-Some.product in
    let graph = product-graph product.left.now product.right.now c.args.left.now c.args.right.now product.tiles product.side c.args.order
    c.args.side c.in-Some.ensures.right.some_side c.in-Some.ensures.made in (
      search rules,
      (
        c.in-Ok.outcome,
        subst (λ graph. IsOutcome c.args.config.nodes c.args.config.workers graph c.in-Ok.outcome) graph c.in-Ok.ensures.outcome,
      ),
    )
