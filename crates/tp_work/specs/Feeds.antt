-- What is known of a finished task and of its node while a worker passes feeds on.
use Rattle.std.specs.Prelude.{ℕ, ◌≡◌, ◌<◌}
use Rattle.{tp_graph.specs.{Carried.Ran, Graphs.TaskGraph}, tp_node.specs.Feeds.{HasFeed, next_home}}
use Rattle.tp_node.specs.Nodes.{NodeState}

module _ {G : Type 0} where
  -- the next feed goes to this node, out of this many
  abbrev pub GoesTo : TaskGraph → Ran G → ℕ → ℕ → Type 0
  GoesTo g f nodes home = HasFeed g f × (home ≡ next_home g f nodes) × (home < nodes)

  -- the same task, with more feeds passed on
  pub record IsFarther (old new : Ran G) : Type 0 where
    pub graph : new.graph ≡ old.graph
    pub task : new.task ≡ old.task
    pub more : old.fed < new.fed

  -- the same node of the same pool
  pub record IsSameNode (old new : NodeState G) : Type 0 where
    pub graph : new.graph ≡ old.graph
    pub nodes : new.nodes ≡ old.nodes
    pub number : new.numbers.node ≡ old.numbers.node
