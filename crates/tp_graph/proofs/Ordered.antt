-- Results whose tasks do not fall, each once.
use Rattle.std.proofs.Common.{◌≡◌, ◌≢◌, ◌<◌, ◌≤◌, ◌+◌, ℕ, zero, suc, ℤ, List, [], ◌∷◌, length, get_or, true, false, cond, if◌then◌else◌}
use Rattle.std.proofs.{Common.{nat_lt, refl, sym, ap, ◌∙◌, ⊎_elim, subst, Some, arith}, lemmas.Bool.{cases_lt, cases_eq, eq-eqb}}
use Rattle.std.proofs.lemmas.{Bool.Decides.{nat_tests, eqb_tells}, List.{Sorted.{sum_by-IsPermutation, All-permutation}, Sums.sum_by-cons}}
use Rattle.std.specs.{List.{count_by, Sorted.{IsNonDecreasingBy, IsPermutation}}, Prelude.◌==◌}
use Rattle.tp_base.specs.declared.TaskId.{TaskId}
use Rattle.tp_graph.specs.{Found.HasEachOnce, Graphs.TaskGraph, Left.{AreResults, result_of}, Serial.{AreInTaskOrder, AreRight, AreValues}}
use Rattle.tp_graph.specs.{Serial.Results, Values.value_of}

abbrev times : ℕ → Results → ℕ
times t results = count_by (λ r. r.0.0 == t) results

times-same : (x : TaskId × List ℤ) (xs : Results) (t : ℕ) → x.0.0 ≡ t → times t (x ∷ xs) ≡ 1 + times t xs
times-same x xs t e = sum_by-cons (λ r. cond (r.0.0 == t) 1 0) x xs ∙ ap (λ b. cond b 1 0 + times t xs) (eq-eqb _ _ e)

times-other : (x : TaskId × List ℤ) (xs : Results) (t : ℕ) → x.0.0 ≢ t → times t (x ∷ xs) ≡ times t xs
times-other x xs t e =
    ⊎_elim
    (λ (p : ((x.0.0 == t) ≡ true) × (x.0.0 ≡ t)). absurd (e p.1))
    (λ (p : ((x.0.0 == t) ≡ false) × (x.0.0 ≢ t)).
    let none : 0 + times t xs ≡ times t xs = omega arith in
    sum_by-cons (λ r. cond (r.0.0 == t) 1 0) x xs ∙ ap (λ b. cond b 1 0 + times t xs) p.0 ∙ none)
    (eqb_tells x.0.0 t)

-- a task below those of all results has none
none_below : (xs : Results) (t : ℕ) → ((i : ℕ) (d : TaskId × List ℤ) → i < length xs → t < (get_or xs i d).0.0) → times t xs ≡ 0
none_below [] t h = refl
none_below (x ∷ xs) t h =
    let other : t < x.0.0 = h 0 x (omega arith) in
    times-other x xs t (λ e. absurd (omega (arith, e, other))) ∙ none_below xs t (λ i d p. h (suc i) d (omega arith))

-- this many tasks from a number on have one result each, and no other task has any
record AreFrom (a n : ℕ) (xs : Results) : Type 0 where
  below : (t : ℕ) → t < a → times t xs ≡ 0
  inside : (t : ℕ) → a ≤ t → t < a + n → times t xs ≡ 1
  above : (t : ℕ) → a + n ≤ t → times t xs ≡ 0

first-is : (x : TaskId × List ℤ) (xs : Results) (a n : ℕ) → IsNonDecreasingBy (λ (r : TaskId × List ℤ). r.0.0) (x ∷ xs)
    → AreFrom a n (x ∷ xs) → (x.0.0 ≡ a) × (0 < n)
first-is x xs a n up from =
    let own : times x.0.0 (x ∷ xs) ≡ 1 + times x.0.0 xs = times-same x xs x.0.0 refl in
    let low : a ≤ x.0.0 =
    ⊎_elim (λ (p : x.0.0 < a). absurd (omega (arith, own, from.below x.0.0 p))) (λ (p : a ≤ x.0.0). p) (cases_lt x.0.0 a) in
    let high : x.0.0 < a + n =
    ⊎_elim (λ (p : x.0.0 < a + n). p) (λ (p : a + n ≤ x.0.0). absurd (omega (arith, own, from.above x.0.0 p)))
    (cases_lt x.0.0 (a + n)) in
    let least : x.0.0 ≤ a =
    ⊎_elim
    (λ (p : a < x.0.0). absurd
    (omega (
      arith,
      from.inside a (omega arith) (omega (arith, low, high)),
      none_below (x ∷ xs) a (λ i d q. omega (arith, p, up 0 i d (omega arith) q)),
    )))
    (λ (p : x.0.0 ≤ a). p)
    (cases_lt a x.0.0) in
    (omega (arith, low, least), omega (arith, low, high))

rest-from : (x : TaskId × List ℤ) (xs : Results) (n : ℕ) → AreFrom x.0.0 (suc n) (x ∷ xs) → AreFrom (suc x.0.0) n xs
rest-from x xs n from =
    let a : ℕ = x.0.0 in
    let own : 1 + times a xs ≡ 1 = sym (times-same x xs a refl) ∙ from.inside a (omega arith) (omega arith) in
    record {
      below = λ t h.
          ⊎_elim
          (λ (p : a ≡ t). ap (λ k. times k xs) (sym p) ∙ omega (arith, own))
          (λ (p : a ≢ t). sym (times-other x xs t p) ∙ from.below t (omega (arith, p, h)))
          (cases_eq a t);
      inside = λ t h q. sym (times-other x xs t (λ p. absurd (omega (arith, p, h)))) ∙ from.inside t (omega (arith, h)) (omega (arith, q));
      above = λ t h. sym (times-other x xs t (λ p. absurd (omega (arith, p, h)))) ∙ from.above t (omega (arith, h));
    }

in-turn : (xs : Results) (a n : ℕ) → IsNonDecreasingBy (λ (r : TaskId × List ℤ). r.0.0) xs → AreFrom a n xs → (length xs ≡ n)
    × ((i : ℕ) (d : TaskId × List ℤ) → i < n → (get_or xs i d).0.0 ≡ a + i)
in-turn [] a zero up from = (refl, λ i d h. absurd (omega arith))
in-turn [] a (suc n) up from = absurd (omega (arith, from.inside a (omega arith) (omega arith)))
in-turn (x ∷ xs) a zero up from = absurd (omega (arith, (first-is x xs a zero up from).1))
in-turn (x ∷ xs) a (suc n) up from =
    let first : x.0.0 ≡ a = (first-is x xs a (suc n) up from).0 in
    let later = in-turn xs (suc x.0.0) n (λ i j d h p.
    up (suc i) (suc j) d (omega arith) (omega arith)) (rest-from x xs n (subst (λ k. AreFrom k (suc n) (x ∷ xs)) (sym first) from)) in
    let each : (i : ℕ) (d : TaskId × List ℤ) → i < suc n → (get_or (x ∷ xs) i d).0.0 ≡ a + i =
    elim [ zero ↦ λ d h. first ∙ omega arith | suc i ↦ λ d h. later.1 i d (omega arith) ∙ omega (arith, first) ] in
    (ap suc later.0, each)

-- results whose tasks do not fall, each once, are in order
pub in_order_of : (tasks : ℕ) (results sorted : Results) → IsPermutation results sorted
    → IsNonDecreasingBy (λ (r : TaskId × List ℤ). r.0.0) sorted → HasEachOnce tasks results → AreInTaskOrder tasks sorted
in_order_of tasks results sorted same up once =
    let count : (t : ℕ) → times t sorted ≡ (if nat_lt t tasks then 1 else 0) =
    λ t. sum_by-IsPermutation (λ r. cond (r.0.0 == t) 1 0) results sorted same ∙ once t in
    let all = in-turn sorted 0 tasks up (record {
      below = λ t h. absurd (omega arith);
      inside = λ t h p. grind (arith, nat_tests, count t);
      above = λ t h. grind (arith, nat_tests, count t);
    }) in
    record { long = all.0; rise = λ t d h. all.1 t d h ∙ omega arith }

-- results in the order of their tasks, each once, are the values of the tasks
pub are_values : (g : TaskGraph) (tasks : ℕ) (results sorted : Results) → IsPermutation results sorted
    → IsNonDecreasingBy (λ (r : TaskId × List ℤ). r.0.0) sorted →
    HasEachOnce tasks results → AreRight g results → AreValues g tasks sorted
are_values g tasks results sorted same up once right =
    let order = in_order_of tasks results sorted same up once in
    record {
      long = order.long;
      rise = order.rise;
      right = All-permutation (λ r. value_of g r.0.0 ≡ Some r.1) results sorted same right;
    }

-- they stay what is left of the values
pub are_left : (g : TaskGraph) (results sorted : Results) → IsPermutation results sorted → AreResults g results → AreResults g sorted
are_left g results sorted same each = All-permutation (λ r. result_of g r.0.0 ≡ Some r.1) results sorted same each
