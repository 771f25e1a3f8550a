use Rattle.std.specs.Prelude.{◌-◌}
use Rattle.tp_work.specs.Feeds.{IsFarther, IsSameNode}
use Rattle.tp_work.proofs.worker.passing.feed_here.Given as goal

abbrev pub invariant-loop-home : goal.invariant-loop-home
invariant-loop-home g l = IsSameNode l.fn.here l.here × IsFarther l.fn.finished l.finished

abbrev pub decreases-loop-home : goal.decreases-loop-home
decreases-loop-home g l = (g.G.Graph.meaning l.finished.graph).feeds l.finished.task.0 - l.finished.fed
