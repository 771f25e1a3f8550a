use Rattle.{std.proofs.Common.{ap, ◌∙◌}, tp_graph.specs.Carried.Ran, tp_node.specs.Feeds.next_feed_of}
use Rattle.tp_node.proofs.work.Finished.next_feed.Goals as goal

pub returns-clause-same : goal.returns-clause-same
returns-clause-same g c = c.feed_of.ensures.same ∙ ap (λ (f : Ran g.row.G.Denot). next_feed_of (g.G.Graph.meaning f.graph) f) c.self.view_is
