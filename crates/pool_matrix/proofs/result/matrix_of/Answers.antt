use Rattle.pool_matrix.proofs.Refused.{◌+◌, ◌*◌, ◌/◌, ◌%◌, pos, get_or, ap, refl, sym, ◌∙◌, inr, arith, w64, to_z-of_z, value_of}
use Rattle.pool_matrix.proofs.Refused.{matrix_graph, one_more_there, lacking, none_lacks, last_kept, number_more, row_below}
use Rattle.pool_matrix.proofs.result.matrix_of.Goals as goal

pub task_at-requires : goal.task_at-requires
task_at-requires c =
    let p = c.args.product.now in
    let below = row_below c.loop-q.q c.order-order.result c.order-order.ensures.some.0 (omega arith) in
    (omega (arith, below.0, c.order-order.ensures.same), omega (arith, below.1, c.order-order.ensures.same))

pub loop-q-preserved : goal.loop-q-preserved
loop-q-preserved c =
    let p = c.args.product.now in
    let number = to_z-of_z w64 c.number_at.result (record { sfits = c.number_at.type_inv }) in
    let tile = c.loop-q.q / c.order-order.result / p.side * p.tiles + c.loop-q.q % c.order-order.result / p.side in
    let kept = last_kept p.left.now p.right.now p.tiles p.side c.task_at.result tile p.in_rules.some_tiles c.task_at.ensures in
    let right = c.in-Some.ensures.kept (matrix_graph p.left.now p.right.now p.tiles p.side) c.requires kept in
    let seen = ap (value_of (matrix_graph p.left.now p.right.now p.tiles p.side)) (sym c.task_at.ensures) ∙ right in
    let next = c.number_at.ensures ∙ ap (λ l. get_or l c.place_at.result (pos 0)) c.as_slice-in-loop-q.ensures
    ∙ ap (λ k. get_or c.in-Some.value.now k (pos 0)) c.place_at.ensures in
    let step = number_more p.left.now p.right.now p.tiles p.side p.in_rules c.loop-q.q c.in-Some.value.now c.loop-q.made.items
    c.number_at.result c.order-order.result c.order-order.ensures.same (omega arith) seen next c.loop-q.invariant.made in
    record {
      made = rw (c.in_ok-push.ensures.items, number) step;
      there = one_more_there p.tiles p.side c.order-order.result c.loop-q.q c.task_at.result c.args.results.now c.in-Some.value.now
          c.order-order.ensures.same c.task_at.ensures c.in-Some.ensures.found c.loop-q.invariant.there;
    }

pub returns-in_default-clause-refused : goal.returns-in_default-clause-refused
returns-in_default-clause-refused c =
    let p = c.args.product.now in
    inr (
      refl,
      lacking p.tiles p.side c.order-order.result c.loop-q.q c.task_at.result c.count.result c.args.results.now _ _
          p.in_rules.some_side c.order-order.ensures.same c.order-order.ensures.some.0 (omega arith) c.task_at.ensures c.count.ensures
          c.as_slice.ensures.value c.in_ok-places.ensures c.in_default.ensures.missing,
    )

pub returns-clause-whole : goal.returns-clause-whole
returns-clause-whole c =
    let p = c.args.product.now in
    none_lacks p.tiles p.side c.order-order.result c.loop-q.q c.args.results.now p.in_rules.some_side c.order-order.ensures.same
    (omega arith) c.loop-q.invariant.there
