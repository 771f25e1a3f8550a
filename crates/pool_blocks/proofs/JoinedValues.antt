-- The values of tasks in a row as one list.
use Rattle.pool_blocks.specs.Joined.{in_a_row, numbers_from}
use Rattle.std.proofs.Common.{◌≡◌, ◌≢◌, ◌<◌, ◌≤◌, ◌+◌, ℕ, zero, suc, ℤ, List, [], ◌∷◌, ◌++◌, Option, Some, None, refl, ap, sym, ◌∙◌, ⊎_elim}
use Rattle.std.{proofs.{Common.{append_assoc, arith}, lemmas.{Bool.cases_lt, List.append-nil}}, specs.List.{All, Contains}}
use Rattle.tp_graph.{proofs.Made.some_same, specs.{Graphs.TaskGraph, Serial.Results, Values.{gather, then_some, value_of}}}

-- one more at the end
abbrev pub and_then : {A : Type 0} → Option (List A) → Option A → Option (List A)
and_then xs x = then_some xs (λ before. then_some x (λ last. Some (before ++ last ∷ [])))

more_step : {A : Type 0} (o : Option A) (p : Option (List A)) (q : Option A)
    → then_some o (λ first. then_some (and_then p q) (λ rest. Some (first ∷ rest)))
    ≡ and_then (then_some o (λ first. then_some p (λ rest. Some (first ∷ rest)))) q
more_step None p q = refl
more_step (Some a) None q = refl
more_step (Some a) (Some b) None = refl
more_step (Some a) (Some b) (Some c) = refl

pub gather-more : {A : Type 0} (n : ℕ) (f : ℕ → Option A) → gather (suc n) f ≡ and_then (gather n f) (f n)
gather-more zero f = refl
gather-more (suc n) f =
    ap (λ o. then_some (f 0) (λ first. then_some o (λ rest. Some (first ∷ rest)))) (gather-more n (λ s. f (suc s)))
    ∙ more_step (f 0) (gather n (λ s. f (suc s))) (f (suc n))

row_append : (xs ys : List (List ℤ)) → in_a_row (xs ++ ys) ≡ in_a_row xs ++ in_a_row ys
row_append [] ys = refl
row_append (x ∷ xs) ys = ap (λ l. x ++ l) (row_append xs ys) ∙ sym (append_assoc x (in_a_row xs) (in_a_row ys))

abbrev pub joining : Option (List (List ℤ)) → Option (List ℤ)
joining values = then_some values (λ all. Some (in_a_row all))

one_more : (o : Option (List (List ℤ))) (all value : List ℤ) → joining o ≡ Some all
    → joining (and_then o (Some value)) ≡ Some (all ++ value)
one_more None all value e = absurd (cc)
one_more (Some values) all value e =
    let same : in_a_row values ≡ all = some_same e in
    ap Some (row_append values (value ∷ []) ∙ ap (λ l. l ++ (value ++ [])) same ∙ ap (λ l. all ++ l) (append-nil value))

-- the next task's numbers
pub joined_more : (g : TaskGraph) (first i : ℕ) (all value : List ℤ) → value_of g (first + i) ≡ Some value
    → numbers_from g first i ≡ Some all → numbers_from g first (i + 1) ≡ Some (all ++ value)
joined_more g first i all value is before =
    let next : i + 1 ≡ suc i = omega arith in
    ap (numbers_from g first) next
    ∙ ap joining (gather-more i (λ k. value_of g (first + k)) ∙ ap (and_then (gather i (λ k. value_of g (first + k)))) is)
    ∙ one_more (gather i (λ k. value_of g (first + k))) all value before

-- one more task has a result
pub more_there : (first i : ℕ) (results : Results) (value : List ℤ) → Contains results (record { 0 = first + i }, value)
    → ((place : ℕ) → place < i → All (λ r. r.0.0 ≢ first + place) results → ⊥)
    → (place : ℕ) → place < i + 1 → All (λ r. r.0.0 ≢ first + place) results → ⊥
more_there first i results value found before place h none =
    ⊎_elim
    (λ (earlier : place < i). before place earlier none)
    (λ (now : i ≤ place).
    let same : first + i ≡ first + place = omega (arith, now, h) in
    none found.0 (record { 0 = first + i }, value) found.1 (ap (λ r. r.0.0) found.2 ∙ same))
    (cases_lt place i)
