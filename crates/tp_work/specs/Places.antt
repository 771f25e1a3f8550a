-- The places of the parts of a pool.
use Rattle.std.specs.{List.{All, range_with_len}, Prelude.{ℕ, ◌+◌, ◌-◌, ◌*◌, ◌≡◌, List, length, map, nat_lt, if◌then◌else◌}}
use Rattle.tp_node.specs.{Nodes.NodeState, PoolLinks.PoolLinkState}

-- the place of the link from one node to another of n, by sender and then by receiver
abbrev pub link_place : ℕ → ℕ → ℕ → ℕ
link_place n from to = from * (n - 1) + (if nat_lt from to then to - 1 else to)

module _ {G : Type 0} where
  -- Each node has the number of its place.
  abbrev pub AreInOrder : List (NodeState G) → Type 0
  AreInOrder nodes = map (λ s. s.numbers.node) nodes ≡ range_with_len 0 (length nodes)

  -- Each node is of the graph.
  abbrev pub AreOf : G → List (NodeState G) → Type 0
  AreOf graph nodes = All (λ s. s.graph ≡ graph) nodes

  -- Each link among n nodes is at its place.
  abbrev pub AreLinksInOrder : ℕ → List (PoolLinkState G) → Type 0
  AreLinksInOrder n links = map (λ w. link_place n w.from w.to) links ≡ range_with_len 0 (length links)

  -- All nodes and links of a pool of n nodes, if each node is at its place and of the graph.
  pub record IsWhole (n : ℕ) (graph : G) (nodes : List (NodeState G)) (links : List (PoolLinkState G)) : Type 0 where
    pub nodes_are : length nodes ≡ n
    pub links_are : length links ≡ n * (n - 1)
    pub order : AreInOrder nodes
    pub of_graph : AreOf graph nodes
