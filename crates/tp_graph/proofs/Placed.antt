-- The index of results by task.
use Rattle.std.proofs.Common.{◌≡◌, ◌≢◌, ◌<◌, ◌≤◌, ◌+◌, ℕ, ℤ, List, length, get_or, set, sym, ap, ◌∙◌, ⊎_elim, arith, subst}
use Rattle.std.{proofs.lemmas.{Bool.{cases_eq, cases_lt}, List.{get_or-set_same, get_or-set_other, get_or_default}}, specs.List.All}
use Rattle.tp_base.specs.declared.TaskId.{TaskId}
use Rattle.tp_graph.specs.{Found.{IsPlaceOf, ArePlaces}, Serial.Results}

-- the index after this many first results
pub record ArePlacesTo (tasks : ℕ) (results : Results) (seen : ℕ) (places : List ℕ) : Type 0 where
  pub long : length places ≡ tasks
  pub each : (t k : ℕ) → t < tasks → k < seen → IsPlaceOf results t k → IsPlaceOf results t (get_or places t 0)

-- the next result is noted at its task
pub noted : (tasks : ℕ) (results : Results) (seen : ℕ) (places : List ℕ) (d : TaskId × List ℤ) (next : List ℕ) → seen < length results
    → ArePlacesTo tasks results seen places →
    (get_or results seen d).0.0 < length places → length next ≡ length places → next ≡ set places (get_or results seen d).0.0 seen
    → ArePlacesTo tasks results (seen + 1) next
noted tasks results seen places d next within before known long is =
    let task : ℕ = (get_or results seen d).0.0 in
    let here : IsPlaceOf results task seen = (within, λ e. ap (λ r. r.0.0) (get_or_default results seen e d within)) in
    record {
      long = long ∙ before.long;
      each = λ t k h p q.
          ⊎_elim
          (λ (same : t ≡ task).
          subst (IsPlaceOf results t)
          (sym (ap (λ l. get_or l t 0) is ∙ ap (λ m. get_or (set places task seen) m 0) same
          ∙ get_or-set_same places task seen 0 known)) (subst (λ m. IsPlaceOf results m seen) (sym same) here))
          (λ (other : t ≢ task).
          subst (IsPlaceOf results t) (sym (ap (λ l. get_or l t 0) is ∙ get_or-set_other places task t seen 0 other))
          (⊎_elim
          (λ (earlier : k < seen). before.each t k h earlier q)
          (λ (now : seen ≤ k). let same : k ≡ seen = omega (arith, now, p) in
          absurd (other (sym (q.1 d) ∙ ap (λ m. (get_or results m d).0.0) same)))
          (cases_lt k seen)))
          (cases_eq t task);
    }

-- the next result is of no task below the number
pub passed : (tasks : ℕ) (results : Results) (seen : ℕ) (places : List ℕ) (d : TaskId × List ℤ) → ArePlacesTo tasks results seen places →
    length places ≤ (get_or results seen d).0.0 → ArePlacesTo tasks results (seen + 1) places
passed tasks results seen places d before past = record {
  long = before.long;
  each = λ t k h p q.
      ⊎_elim
      (λ (earlier : k < seen). before.each t k h earlier q)
      (λ (now : seen ≤ k).
      let same : k ≡ seen = omega (arith, now, p) in
      let task : (get_or results seen d).0.0 ≡ t = ap (λ m. (get_or results m d).0.0) (sym same) ∙ q.1 d in
      absurd (omega (arith, task, past, h, before.long)))
      (cases_lt k seen);
}

pub all_noted : (tasks : ℕ) (results : Results) (seen : ℕ) (places : List ℕ) → length results ≤ seen
    → ArePlacesTo tasks results seen places → ArePlaces tasks results places
all_noted tasks results seen places all before = record {
  long = before.long;
  each = λ t k h q. before.each t k h (omega (arith, all, q.0)) q;
}

-- a task at whose place there is no result of it has none
pub not_found : (tasks : ℕ) (results : Results) (places : List ℕ) (t : ℕ) → ArePlaces tasks results places → t < tasks
    → (IsPlaceOf results t (get_or places t 0) → ⊥) → All (λ r. r.0.0 ≢ t) results
not_found tasks results places t kept known none =
    λ k d within is. none (kept.each t k known (within, λ e. ap (λ r. r.0.0) (get_or_default results k e d within) ∙ is))
