use Rattle.std.specs.Prelude.{◌≡◌, ◌-◌, MatchOption}
use Rattle.tp_work.specs.Feeds.{GoesTo, IsSameNode}
use Rattle.tp_work.proofs.worker.Worker.pass_feeds.Given as goal

abbrev pub invariant-loop-next : goal.invariant-loop-next
invariant-loop-next g l = record {
  node : IsSameNode l.fn.here l.here;
  same : l.finished.graph ≡ l.here.graph;
  graph : l.finished.graph ≡ l.fn.finished.graph;
  next : MatchOption l.next (l.finished.fed
      ≡ (g.G.Graph.meaning l.finished.graph).feeds l.finished.task.0) (λ home.
      GoesTo (g.G.Graph.meaning l.finished.graph) l.finished l.here.nodes home.0);
}

abbrev pub decreases-loop-next : goal.decreases-loop-next
decreases-loop-next g l = (g.G.Graph.meaning l.finished.graph).feeds l.finished.task.0 - l.finished.fed
