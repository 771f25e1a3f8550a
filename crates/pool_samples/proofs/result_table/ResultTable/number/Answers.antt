use Rattle.pool_samples.proofs.Keeping.{◌≡◌, ◌<◌, ◌∙◌, ℤ, List, Option, Some, None, IsSomeAnd, length, pos, get_or, w64, ap, arith, subst}
use Rattle.pool_samples.proofs.Keeping.{sym, rules, Bor, FitsSigned, to_z-of_z, get_or_default, value_of, any_graph, needed_task, table_of}
use Rattle.pool_samples.proofs.Keeping.{number_is}
use Rattle.pool_samples.proofs.result_table.ResultTable.number.Goals as goal

pub returns : goal.returns
returns c =
    let cell = c.cell-rank.ensures in
    let graph = c.self.inside.graph in
    let within : c.cell-rank.result.0 < length c.self.inside.values.items = omega (arith, c.self.invariant.long, cell.known) in
    let stands =
    get_or_default c.self.inside.values.items c.cell-rank.result.0 None c.index.result.now within ∙ sym c.index.ensures
    ∙ c.in-Some.is in
    let P : Option (Bor (List ℤ)) → Type 0 =
    λ o. IsSomeAnd o (λ found. value_of (any_graph graph) (needed_task graph c.cell-rank.result.0) ≡ Some found.now) in
    let right : value_of (any_graph graph) (needed_task graph c.cell-rank.result.0) ≡ Some c.in-Some.value.now =
    subst P stands (c.self.invariant.each c.cell-rank.result.0 cell.known) in
    let number = number_is graph c.args.i c.args.j c.cell-rank.result.0 c.cell-rank.result.1 c.in-Some.value.now cell right in
    let fits : FitsSigned w64 (get_or c.as_slice.result.now c.cell-rank.result.1 (pos 0)) = search rules in
    to_z-of_z w64 _ fits ∙ ap (λ l. get_or l c.cell-rank.result.1 (pos 0)) c.as_slice.ensures ∙ number
    ∙ ap (λ g. (table_of g).at c.args.i c.args.j) c.self.view_is
