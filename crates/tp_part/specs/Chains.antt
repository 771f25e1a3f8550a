-- The invariant of edges: those of a value are a chain.
use Rattle.std.specs.{BTreeMap.{BTreeMap, get}, Ordering.nat_cmp, Prelude.{ℕ, ◌≡◌, ◌≤◌, List, length, slice_get, Some, unwrap_or}}
use Rattle.tp_dag.specs.declared.limits.TheConstants.{MAX_INPUTS}
use Rattle.tp_part.specs.{Edges.{EdgeList, newest}, declared.edges.{Edge.Edge, Edges.TheInside.Inside}}

abbrev pub edges_of : Inside → EdgeList
edges_of p = p.items.items

-- the number of value u, 0 if it has none
abbrev pub head : BTreeMap ℕ ℕ → ℕ → ℕ
head numbers u = unwrap_or (get nat_cmp numbers u) 0

pub record IsChain (items : List Edge) (older : List ℕ) (first : ℕ → ℕ) : Type 0 where
  pub few : length items ≤ MAX_INPUTS
  pub long : length older ≡ length items
  pub heads : (u : ℕ) → first u ≡ newest u items (length items)
  pub chain : (k n : ℕ) (e : Edge) → slice_get items k ≡ Some e → slice_get older k ≡ Some n → n ≡ newest e.value items k

abbrev pub AreChained : Inside → Type 0
AreChained p = IsChain p.items.items p.older.items (head p.newest)
