-- The feeds of a finished task.
use Rattle.std.specs.Prelude.{ℕ, ◌+◌, ◌<◌}
use Rattle.tp_graph.specs.{Carried.{Ran, feed_at}, Graphs.TaskGraph, declared.feed.Feed.Feed}

module _ {G : Type 0} where
  -- a feed was not passed on
  abbrev pub HasFeed : TaskGraph → Ran G → Type 0
  HasFeed g f = f.fed < g.feeds f.task.0

  -- the first of those that were not passed on
  abbrev pub next_feed_of : TaskGraph → Ran G → Feed
  next_feed_of g f = feed_at g f.task.0 f.fed

  -- the node that it goes to, out of this many
  abbrev pub next_home : TaskGraph → Ran G → ℕ → ℕ
  next_home g f nodes = g.home (next_feed_of g f).target.0 nodes

  -- the task with that feed passed on
  abbrev pub passed_on : Ran G → Ran G
  passed_on f = record f { fed = f.fed + 1 }
