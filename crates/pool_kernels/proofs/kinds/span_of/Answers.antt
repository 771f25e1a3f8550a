use Rattle.pool_kernels.proofs.Tables.{outputs_there}
use Rattle.std.proofs.Common.{rules}
use Rattle.pool_kernels.proofs.kinds.span_of.Goals as goal

pub returns-then-row-shape : goal.returns-then-row-shape
returns-then-row-shape g c =
    let s = c.args.shape in
    let there = outputs_there (g.P.Relation.relation c.args._relation.now s.width) s.width s.steps s.period c.args.kinds.now
    c.requires.kinds c.args.row c.args.column c.index.result.now (search rules) (search rules) (search rules) in
    record { feeds = there.0; own = there.1 }
