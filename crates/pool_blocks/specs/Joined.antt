-- The values of tasks in a row, as one list.
use Rattle.std.specs.Prelude.{◌≡◌, ◌≢◌, ◌<◌, ◌+◌, ◌⊎◌, ℕ, ℤ, List, [], ◌∷◌, ◌++◌, Option, Some, All, IsTrue}
use Rattle.tp_base.specs.declared.Refusal.{Refusal, TheVariants.{Missing, NoMemory}}
use Rattle.tp_graph.specs.{Graphs.TaskGraph, Serial.Results, Values.{gather, then_some, value_of}}

-- lists of numbers, one after the other
abbrev pub in_a_row : List (List ℤ) → List ℤ
in_a_row [] = []
in_a_row (x ∷ rest) = x ++ in_a_row rest

-- the numbers of the values of `count` tasks from task `first` on; none if one of the tasks has no value
abbrev pub numbers_from : TaskGraph → ℕ → ℕ → Option (List ℤ)
numbers_from g first count = then_some (gather count (λ i. value_of g (first + i))) (λ values. Some (in_a_row values))

-- the graph keeps these values
abbrev pub KeepsFrom : TaskGraph → ℕ → ℕ → Type 0
KeepsFrom g first count = (i : ℕ) → i < count → IsTrue (g.keeps (first + i))

-- one of these tasks has no result
pub record LacksTask (first count : ℕ) (results : Results) : Type 0 where
  pub place : ℕ
  pub within : place < count
  pub none : All (λ r. r.0.0 ≢ first + place) results

-- why there is no such list: one of the tasks has no result, or an allocation failed
abbrev pub IsJoinedRefusal : ℕ → ℕ → Results → Refusal → Type 0
IsJoinedRefusal first count results refusal = (refusal ≡ NoMemory) ⊎ ((refusal ≡ Missing) × LacksTask first count results)
