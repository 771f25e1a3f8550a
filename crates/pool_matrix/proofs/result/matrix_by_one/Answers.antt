use Rattle.pool_matrix.proofs.Refused.{inl, IfErr-weaker, right_kept, matrix_graph, all_there, only_memory}
use Rattle.pool_matrix.proofs.result.matrix_by_one.Goals as goal

pub matrix_of-requires : goal.matrix_of-requires
matrix_of-requires c =
    let p = c.args.product in
    rw c.as_slice.ensures.value
    (right_kept (matrix_graph p.left.now p.right.now p.tiles p.side) c.in_ok-results.results.items c.in_ok-results.ensures.right)

pub returns-clause-refused : goal.returns-clause-refused
returns-clause-refused c =
    let p = c.args.product in
    IfErr-weaker c.matrix_of.result _ _ (λ refusal why.
    inl (only_memory p.tiles c.in_ok-results.results.items refusal
    (all_there p.left.now p.right.now p.tiles p.side c.in_ok-results.results.items c.in_ok-results.ensures)
    (rw c.as_slice.ensures.value at why)))
    c.matrix_of.ensures.refused
