-- What a run leaves is each task's value if the graph keeps it.
use Rattle.std.proofs.Common.{◌≡◌, ℕ, ℤ, List, [], Option, Some, None, true, get_or, if◌then◌else◌, refl, sym, ap, ◌∙◌}
use Rattle.tp_graph.specs.{Graphs.{TaskGraph, KeepsAll}, Left.{AreKept, AreResults, left_of, result_of}, Serial.{AreRight, Results}}
use Rattle.tp_graph.specs.Values.{then_some, value_of}

whole : (g : TaskGraph) (t : ℕ) (o : Option (List ℤ)) → g.keeps t ≡ true → then_some o (λ value. Some (left_of g t value)) ≡ o
whole g t None kept = refl
whole g t (Some value) kept = ap (λ b. Some (if b then value else [])) kept

-- the result of a task that is kept is its value
pub result_kept : (g : TaskGraph) (t : ℕ) → g.keeps t ≡ true → result_of g t ≡ value_of g t
result_kept g t kept = whole g t (value_of g t) kept

-- what is left of a task's value is its result
pub result_left : (g : TaskGraph) (t : ℕ) (value : List ℤ) → value_of g t ≡ Some value → result_of g t ≡ Some (left_of g t value)
result_left g t value e = ap (λ o. then_some o (λ v. Some (left_of g t v))) e

-- results have the values of the tasks that are kept
pub results_kept : (g : TaskGraph) (results : Results) → AreResults g results → AreKept g results
results_kept g results each = λ k d h kept. sym (result_kept g (get_or results k d).0.0 kept) ∙ each k d h

-- so have all values
pub right_kept : (g : TaskGraph) (results : Results) → AreRight g results → AreKept g results
right_kept g results each = λ k d h kept. each k d h

-- if all are kept, results are the values
pub results_right : (g : TaskGraph) (results : Results) → KeepsAll g → AreResults g results → AreRight g results
results_right g results all each = λ k d h. sym (result_kept g (get_or results k d).0.0 (all (get_or results k d).0.0)) ∙ each k d h
