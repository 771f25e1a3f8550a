use Rattle.pool_kernels.specs.{Events.events_below, Tables.AreSpots}
use Rattle.std.proofs.Common.{◌≡◌, ◌≤◌, ◌*◌, vec_len, vec_capacity}
use Rattle.pool_kernels.proofs.kinds.spots_of.Given as goal

abbrev pub invariant-loop-task : goal.invariant-loop-task
invariant-loop-task g l = record {
  made : AreSpots (g.P.Relation.relation l.relation l.shape.width) l.shape.width l.shape.steps l.task l.spots.items l.kinds.outputs.items;
  counted : l.events ≡ events_below (g.P.Relation.relation l.relation l.shape.width) l.shape.width l.task;
  few : l.events ≤ 258 * l.task;
  long : vec_len l.spots ≡ l.task;
  room : vec_capacity l.spots ≡ l.shape.steps * l.shape.width;
}
