use Rattle.std.proofs.Common.{rules, ◌<◌, arith, refl}
use Rattle.tp_node.proofs.node.tasks.find_seed.Goals as goal

pub returns-then-is_seed : goal.returns-then-is_seed
returns-then-is_seed g c = record { next = (c.if-is_seed.ensures.yes refl, omega arith, c.loop-task.invariant) }

pub returns : goal.returns
returns g c =
    record {
      next = λ t low seed.
          c.loop-task.invariant t low (let known : t < (g.G.Graph.meaning c.args.graph.now).tasks = seed.known in
          omega (arith, c.tasks-task-end.ensures)) seed;
    }

pub loop-task-init : goal.loop-task-init
loop-task-init g c = search rules
