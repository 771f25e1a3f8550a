-- The edges of the graph that cross parts: which value goes where, and whether it was passed on.
use Rattle.std.specs.{List.list_any, Prelude.{ℕ, zero, suc, ◌==◌, ◌&&◌, List, [], ◌∷◌, Bool, true, false, map, slice_get, Option, Some}}
use Rattle.std.specs.Prelude.{None, if◌then◌else◌}
use Rattle.tp_part.specs.declared.edges.Edge.{Edge}

abbrev pub EdgeList : Type 0
EdgeList = List Edge

abbrev pub is_of : ℕ → Option Edge → Bool
is_of u (Some e) = e.value == u
is_of u None = false

-- 1 more than the place of the newest of the first n edges of value u; 0 if there is none
abbrev pub newest : ℕ → List Edge → ℕ → ℕ
newest u es zero = 0
newest u es (suc n) = if is_of u (slice_get es n) then suc n else newest u es n

-- the places of the first n edges of value u, newest first
abbrev pub places : ℕ → List Edge → ℕ → List ℕ
places u es zero = []
places u es (suc n) = if is_of u (slice_get es n) then n ∷ places u es n else places u es n

-- an edge from value u to this target
abbrev pub is_edge : ℕ → ℕ → Edge → Bool
is_edge u q e = (e.value == u) && (e.target == q)

abbrev pub has_edge : ℕ → ℕ → List Edge → Bool
has_edge u q es = list_any (is_edge u q) es

abbrev pub new_edge : ℕ → ℕ → Edge
new_edge u q = record { value = u; target = q; passed = false }

-- value u is passed on, along each of its edges
abbrev pub passed_on : ℕ → Edge → Edge
passed_on u e = if e.value == u then record e { passed = true } else e

abbrev pub pass : ℕ → List Edge → List Edge
pass u es = map (passed_on u) es

-- along this edge
abbrev pub pass_one : Edge → Edge
pass_one e = record e { passed = true }
