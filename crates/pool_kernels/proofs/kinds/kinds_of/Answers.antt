use Rattle.pool_kernels.proofs.Tables.{kinds_are}
use Rattle.std.proofs.Common.{arith}
use Rattle.pool_kernels.proofs.kinds.kinds_of.Goals as goal

pub returns-in-Err-clause-refused : goal.returns-in-Err-clause-refused
returns-in-Err-clause-refused g c = c.in-Err.ensures.refused c.args.shape.steps (omega arith)

pub returns-clause-made : goal.returns-clause-made
returns-clause-made g c =
    let s = c.args.shape in
    kinds_are (g.P.Relation.relation c.args.relation.now s.width) s.width s.steps s.period c.loop-row.row c.loop-row.kinds c.requires.sizes
    c.requires.some (omega arith) c.loop-row.invariant.spans c.loop-row.invariant.arities c.requires.again
