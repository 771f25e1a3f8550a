-- A set of nodes, as a test of a node's number.
use Rattle.std.specs.{List.slice_index_or, Prelude.{ℕ, Bool, false}}
use Rattle.tp_core.specs.declared.node_set.NodeSet.{NodeSet}

-- Node i is in the set.
unfoldable pub has : NodeSet → ℕ → Bool
has nodes i = slice_index_or nodes.at i false
