-- A new pool.
use Rattle.{std.specs.Prelude.{ℕ, List, map}, tp_board.specs.Numbers.{first_links, first_shares}, tp_node.specs.Nodes.NodeState}
use Rattle.tp_node.specs.{Nodes.first_node, PoolLinks.{PoolLinkState, empty_pool_link}}

-- n new nodes, in rising order
abbrev pub first_nodes : {G : Type 0} → G → ℕ → List (NodeState G)
first_nodes graph n = map (λ s. first_node graph n s.node) (first_shares n)

-- the empty links among n nodes, by sender and then by receiver
abbrev pub first_pool_links : {G : Type 0} → ℕ → List (PoolLinkState G)
first_pool_links n = map empty_pool_link (first_links n)
