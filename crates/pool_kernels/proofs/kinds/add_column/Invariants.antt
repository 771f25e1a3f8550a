use Rattle.pool_kernels.specs.{Ranks.rank, Tables.{AreSeen, outputs_to}}
use Rattle.std.proofs.Common.{◌≡◌, ◌≤◌, ◌++◌}
use Rattle.pool_kernels.proofs.kinds.add_column.Given as goal

abbrev pub invariant-loop-to : goal.invariant-loop-to
invariant-loop-to g l = record {
  seen : AreSeen (g.P.Relation.relation l.relation l.width) l.width l.step l.from l.to l.seen.items;
  made : l.outputs.items ≡ l.fn.outputs.items ++ outputs_to (g.P.Relation.relation l.relation l.width) l.step l.from l.to;
  count : l.count ≡ rank (λ i. g.P.Relation.relation l.relation l.width l.step l.from i) l.to;
  few : l.count ≤ l.to;
}
