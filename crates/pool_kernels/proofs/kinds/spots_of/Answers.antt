use Rattle.pool_kernels.proofs.{Events.events_more, Tables.{none_wide, spots_more}}
use Rattle.pool_kernels.specs.Grids.{Relation}
use Rattle.std.proofs.Common.{◌≡◌, ◌*◌, arith, rules}
use Rattle.pool_kernels.proofs.kinds.spots_of.Goals as goal

pub loop-task-preserved : goal.loop-task-preserved
loop-task-preserved g c =
    let s = c.args.shape in
    let r : Relation = g.P.Relation.relation c.args.relation.now s.width in
    let before = c.loop-task.invariant in
    let spot = c.spot_of-spot.result in
    record {
      made = spots_more r s.width s.steps c.loop-task.task c.loop-task.spots.items _ c.args.kinds.now.outputs.items spot before.made
          c.spot_of-spot.ensures c.push_reserved.ensures.items;
      counted = events_more r s.width c.loop-task.task c.loop-task.events _ spot.arity before.counted c.spot_of-spot.ensures.arity
          (search rules);
      few = omega (arith, before.few, c.task_events-events.ensures.few);
      long = omega (arith, before.long, c.push_reserved.ensures.len);
      room = omega (arith, before.room, c.push_reserved.ensures.capacity);
    }

pub returns-then-events-gt-MAX_STEPS-clause-refused : goal.returns-then-events-gt-MAX_STEPS-clause-refused
returns-then-events-gt-MAX_STEPS-clause-refused g c =
    let all : c.args.shape.steps * c.args.shape.width ≡ c.loop-task.task = omega arith in
    rw all (omega (arith, c.loop-task.invariant.counted))

pub returns-clause-no_fault : goal.returns-clause-no_fault
returns-clause-no_fault g c =
    let s = c.args.shape in
    let known = c.requires.kinds in
    let all : s.steps * s.width ≡ c.loop-task.task = omega arith in
    record {
      some = (known.sizes.0, known.sizes.2);
      narrow = none_wide (g.P.Relation.relation c.args.relation.now s.width) s.width s.steps s.period c.args.kinds.now known;
      few = rw all (omega (arith, c.loop-task.invariant.counted));
    }

pub returns-clause-made : goal.returns-clause-made
returns-clause-made g c =
    let all : c.args.shape.steps * c.args.shape.width ≡ c.loop-task.task = omega arith in rw all c.loop-task.invariant.made
