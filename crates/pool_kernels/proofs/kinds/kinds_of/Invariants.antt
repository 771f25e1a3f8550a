use Rattle.std.proofs.Common.{◌*◌}
use Rattle.pool_kernels.specs.Tables.{AreArities, AreSpans}
use Rattle.pool_kernels.proofs.kinds.kinds_of.Given as goal

abbrev pub invariant-loop-row : goal.invariant-loop-row
invariant-loop-row g l =
    let r = g.P.Relation.relation l.relation l.shape.width in
    record {
      spans : AreSpans r l.shape.width (l.row * l.shape.width) l.kinds.spans.items l.kinds.outputs.items;
      arities : AreArities r l.shape.width (l.row * l.shape.width) l.kinds.arities.items;
    }
