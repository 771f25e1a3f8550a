-- Results in any order: the positions of those of tasks, and how many a task has.
use Rattle.std.specs.{List.count_by, Prelude.{◌≡◌, ◌<◌, ◌==◌, ℕ, ℤ, List, length, slice_index_or, nat_lt, if◌then◌else◌}}
use Rattle.tp_base.specs.declared.TaskId.{TaskId}
use Rattle.tp_graph.specs.Serial.{Results}

-- the result at a position is one of a task
abbrev pub IsPlaceOf : Results → ℕ → ℕ → Type 0
IsPlaceOf results t place = (place < length results) × ((d : TaskId × List ℤ) → (slice_index_or results place d).0.0 ≡ t)

-- if a task below a number has results, its position is that of one of them
pub record ArePlaces (tasks : ℕ) (results : Results) (places : List ℕ) : Type 0 where
  pub long : length places ≡ tasks
  pub each : (t k : ℕ) → t < tasks → IsPlaceOf results t k → IsPlaceOf results t (slice_index_or places t 0)

-- how many results a task has
abbrev pub times : ℕ → Results → ℕ
times t results = count_by (λ r. r.0.0 == t) results

-- Each task below a number has one result, and no other task has any.
abbrev pub HasEachOnce : ℕ → Results → Type 0
HasEachOnce tasks results = (t : ℕ) → times t results ≡ (if nat_lt t tasks then 1 else 0)
