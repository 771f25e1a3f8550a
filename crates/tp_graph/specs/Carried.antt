-- What contracts see of the types that carry values.
use Rattle.std.specs.Prelude.{◌≡◌, ◌<◌, ◌≤◌, ℕ, ℤ, List, Some}
use Rattle.tp_base.specs.declared.ids.{Generation.Generation, MessageId.MessageId, NodeId.NodeId, TaskId.TaskId}
use Rattle.tp_graph.specs.{Graphs.TaskGraph, Values.{value_of, AreInputs}, declared.feed.Feed.Feed}

-- one of the feeds of a task goes to that slot of that target
pub record IsFeed (g : TaskGraph) (feed : Feed) : Type 0 where
  pub known : feed.producer.0 < g.tasks
  pub turn : ℕ
  pub within : turn < g.feeds feed.producer.0
  pub target_is : g.target feed.producer.0 turn ≡ feed.target.0
  pub slot_is : g.slot feed.producer.0 turn ≡ feed.slot

-- feed k of task p
abbrev pub feed_at : TaskGraph → ℕ → ℕ → Feed
feed_at g p k = record { producer = record { 0 = p }; target = record { 0 = g.target p k }; slot = g.slot p k }

-- a begun task and its inputs, in slot order
pub record Begun (G : Type 0) : Type 0 where
  pub graph : G
  pub task : TaskId
  pub inputs : List (List ℤ)

-- a task that has run, its value, and how many of its feeds were passed on
pub record Ran (G : Type 0) : Type 0 where
  pub graph : G
  pub task : TaskId
  pub value : List ℤ
  pub fed : ℕ

-- a value in flight between two nodes, its feed, and the generation in which it was sent
pub record Carried (G : Type 0) : Type 0 where
  pub graph : G
  pub number : MessageId
  pub generation : Generation
  pub from : NodeId
  pub to : NodeId
  pub feed : Feed
  pub value : List ℤ

-- what begun work keeps: its inputs are the values of the task's producers, in slot order
pub record IsBegun (g : TaskGraph) (t : ℕ) (inputs : List (List ℤ)) : Type 0 where
  pub known : t < g.tasks
  pub right : AreInputs g t inputs

-- what a finished task keeps: its value is the one that the graph defines for the task
pub record HasRun (g : TaskGraph) (t : ℕ) (made : List ℤ) (fed : ℕ) : Type 0 where
  pub known : t < g.tasks
  pub right : value_of g t ≡ Some made
  pub few : fed ≤ g.feeds t

-- what a carried value keeps: it is the one that the graph defines for the feed's producer
pub record IsCarried (g : TaskGraph) (number generation : ℕ) (feed : Feed) (made : List ℤ) : Type 0 where
  pub few : number < 1048576
  pub few_generations : generation < 1048576
  pub right : value_of g feed.producer.0 ≡ Some made
  pub fed : IsFeed g feed
