use Rattle.prefix.proofs.RowSums.{sums_are}
use Rattle.prefix.proofs.sums.prefix_sums.Goals as goal

pub returns-in-Ok-clause-sums : goal.returns-in-Ok-clause-sums
returns-in-Ok-clause-sums g c =
    sums_are c.args.numbers.now c.rows_for.result c.in-Ok.run'.row.items c.rows_for.ensures.rows.enough c.in-Ok.ensures.row

pub returns-in-Err-clause-refused : goal.returns-in-Err-clause-refused
returns-in-Err-clause-refused g c = (c.rows_for.result, c.rows_for.ensures.rows, c.in-Err.ensures.refused)
