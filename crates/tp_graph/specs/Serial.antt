-- The results of a graph that is computed on one thread.
use Rattle.std.specs.Prelude.{◌≡◌, ◌<◌, ◌⊎◌, ℕ, ℤ, List, Some, None, length, slice_index_or, All}
use Rattle.tp_base.specs.declared.{Refusal.{Refusal, TheVariants.{BodyFailed, NoMemory}}, TaskId.TaskId}
use Rattle.tp_graph.specs.{Graphs.TaskGraph, Values.value_of}

-- results, each a task and numbers
abbrev pub Results : Type 0
Results = List (TaskId × List ℤ)

-- each result is its task's value
abbrev pub AreRight : TaskGraph → Results → Type 0
AreRight g results = All (λ r. value_of g r.0.0 ≡ Some r.1) results

-- results of the tasks below `count`, in rising order
pub record AreInTaskOrder (count : ℕ) (results : Results) : Type 0 where
  pub long : length results ≡ count
  pub rise : (t : ℕ) (d : TaskId × List ℤ) → t < count → (slice_index_or results t d).0.0 ≡ t

-- the values of the tasks below `count`, in rising order
pub record AreValues (g : TaskGraph) (count : ℕ) (results : Results) : Type 0 where
  pub long : length results ≡ count
  pub rise : (t : ℕ) (d : TaskId × List ℤ) → t < count → (slice_index_or results t d).0.0 ≡ t
  pub right : AreRight g results

-- why there are no values: a task has none, or an allocation failed
abbrev pub IsSerialRefusal : TaskGraph → Refusal → Type 0
IsSerialRefusal g refusal = (refusal ≡ NoMemory) ⊎ ((refusal ≡ BodyFailed) × ((t : ℕ) × (t < g.tasks) × (value_of g t ≡ None)))
