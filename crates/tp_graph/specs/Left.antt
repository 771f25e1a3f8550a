-- The results of a run: the values that a graph keeps.
use Rattle.std.specs.Prelude.{◌≡◌, ℕ, ℤ, IsTrue, List, [], Option, Some, All, if◌then◌else◌}
use Rattle.tp_graph.specs.{Graphs.TaskGraph, Serial.Results, Values.{then_some, value_of}}

-- what is left of a value of task t: the value if the graph keeps it, and else no numbers
abbrev pub left_of : TaskGraph → ℕ → List ℤ → List ℤ
left_of g t value = if g.keeps t then value else []

-- the result of task t: what is left of its value, or none if it has no value
abbrev pub result_of : TaskGraph → ℕ → Option (List ℤ)
result_of g t = then_some (value_of g t) (λ value. Some (left_of g t value))

-- each is the result of its task
abbrev pub AreResults : TaskGraph → Results → Type 0
AreResults g results = All (λ r. result_of g r.0.0 ≡ Some r.1) results

-- each task that the graph keeps has its value as its result
abbrev pub AreKept : TaskGraph → Results → Type 0
AreKept g results = All (λ r. IsTrue (g.keeps r.0.0) → value_of g r.0.0 ≡ Some r.1) results
