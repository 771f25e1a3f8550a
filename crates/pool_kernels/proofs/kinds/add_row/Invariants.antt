use Rattle.std.proofs.Common.{◌≡◌, ◌+◌, ◌*◌}
use Rattle.pool_kernels.specs.Tables.{AreSeen, AreSpans}
use Rattle.pool_kernels.proofs.kinds.add_row.Given as goal

abbrev pub invariant-loop-from : goal.invariant-loop-from
invariant-loop-from g l = record {
  spans : AreSpans (g.P.Relation.relation l.relation l.width) l.width (l.rows * l.width + l.from) l.kinds.spans.items l.kinds.outputs.items;
  seen : AreSeen (g.P.Relation.relation l.relation l.width) l.width (l.rows + 1) l.from 0 l.seen.items;
  arities : l.kinds.arities.items ≡ l.fn.kinds.arities.items;
}
