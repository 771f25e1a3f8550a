-- What contracts see of a link of a pool: a queue of messages with its share.
use Rattle.std.specs.Prelude.{ℕ, ◌≡◌, List, [], ◌∷◌, ◌++◌, length, All, ℤ}
use Rattle.tp_board.specs.Numbers.{LinkNumbers, node_at}
use Rattle.{tp_board.specs.States.BoardState, tp_graph.specs.{Carried.Carried, Graphs.TaskGraph, Link.Line, declared.feed.Feed.Feed}}
use Rattle.tp_wave.specs.{Generations.generation, Machine.steps_of}

-- A link goes from one node to another. Its messages are listed oldest first.
pub record PoolLinkState (G : Type 0) : Type 0 where
  pub from : ℕ
  pub to : ℕ
  pub messages : List (Carried G)

-- a link with no message
abbrev pub empty_pool_link : {G : Type 0} → LinkNumbers → PoolLinkState G
empty_pool_link l = record { from = l.from; to = l.to; messages = [] }

-- the link with one more message, the newest
abbrev pub with_message : {G : Type 0} → Carried G → PoolLinkState G → PoolLinkState G
with_message m w = record { from = w.from; to = w.to; messages = w.messages ++ m ∷ [] }

-- message m of a generation on the link, with the value for the end of a feed
abbrev pub message_on : {G : Type 0} → PoolLinkState G → G → ℕ → ℕ → Feed → List ℤ → Carried G
message_on w graph k m feed value =
    record {
      graph = graph;
      number = record { 0 = m };
      generation = record { 0 = k };
      from = node_at w.from;
      to = node_at w.to;
      feed = feed;
      value = value;
    }

-- the number of the board's present generation
abbrev pub generation_of : BoardState → ℕ
generation_of b = generation (steps_of b.history)

-- a link's numbers, counted over its messages
abbrev pub link_of : {G : Type 0} → PoolLinkState G → LinkNumbers
link_of w = record { from = w.from; to = w.to; under = length w.messages }

-- A message of this graph goes from one of these nodes to another, to which the target of its feed belongs.
pub record IsOnWay {G : Type 0} (g : TaskGraph) (nodes from to : ℕ) (m : Carried G) : Type 0 where
  pub from_is : m.from.0 ≡ from
  pub to_is : m.to.0 ≡ to
  pub home_is : g.home m.feed.target.0 nodes ≡ to

-- The share is of the link's two nodes and has the number of messages on the link, and each message goes from the one node to
-- the other, to which its target belongs.
pub record IsPoolLink {G : Type 0} (meaning : G → TaskGraph) (nodes : ℕ) (link : Line (Carried G)) (share : LinkNumbers) : Type 0 where
  pub from : link.from ≡ share.from
  pub to : link.to ≡ share.to
  pub under : share.under ≡ length link.messages
  pub each : All (λ m. IsOnWay (meaning m.graph) nodes share.from share.to m) link.messages
