-- Pools whose states are set one after the other.
use Rattle.std.proofs.Common.{refl, arith, ap, ap₂, sym, inl, inr, cond, true, false, ℕ, suc, ◌≡◌, ◌≢◌, ◌∙◌, ◌+◌, ◌<◌, ◌≤◌, ◌∷◌, Bool, List}
use Rattle.std.proofs.{Common.{Option, Some, Result, drop, length, slice_get, slice_set, unwrap_or}, Math.Seq.drop-cons}
use Rattle.std.proofs.lemmas.{Bool.cases_lt, List.{length-drop, length-set, get_or-set_same, get_or-set_other, Sums.count_by_more_no}}
use Rattle.std.proofs.lemmas.{List.Sums.{count_by_more_yes, sum_by-take-le}, Option.{get_or_from_slice_get, slice_get-get_or}}
use Rattle.std.{proofs.lemmas.Option.{slice_get_past, slice_get_within}, specs.{List.count_by, Option.option_map, Prelude.get_or}}
use Rattle.tp_cli.specs.Registry.{AreSettled, Entered, Pools, after, is_waiting, rank}

get-set_same : {X : Type 0} (xs : List X) (i : ℕ) (y : X) → i < length xs → slice_get (slice_set xs i y) i ≡ Some y
get-set_same xs i y lt =
    slice_get-get_or (slice_set xs i y) i y (omega (arith, length-set xs i y, lt)) ∙ ap Some (get_or-set_same xs i y y lt)

get-set_other : {X : Type 0} (xs : List X) (i j : ℕ) (y : X) → j ≢ i → slice_get (slice_set xs i y) j ≡ slice_get xs j
get-set_other xs i j y other = elim (cases_lt j (length xs)) [
  | inl lt ↦ slice_get-get_or (slice_set xs i y) j y (omega (arith, length-set xs i y, lt)) ∙ ap Some (get_or-set_other xs i j y y other)
      ∙ sym (slice_get-get_or xs j y lt)
  | inr ge ↦ slice_get_past (slice_set xs i y) j (omega (arith, length-set xs i y, ge)) ∙ sym (slice_get_past xs j ge)
]

-- the rest of a list from a position on begins with the element there
first_of_rest : {X : Type 0} (xs : List X) (k : ℕ) (x : X) (rest : List X) → x ∷ rest ≡ drop k xs
    → (slice_get xs k ≡ Some x) × (rest ≡ drop (suc k) xs)
first_of_rest xs k x rest is =
    let lt : k < length xs = omega (arith, ap length is, length-drop k xs) in
    let whole : x ∷ rest ≡ get_or xs k x ∷ drop (suc k) xs = is ∙ drop-cons xs k x lt in
    (slice_get-get_or xs k x lt ∙ ap Some (sym (ap (λ (l : List _). get_or l 0 x) whole)), ap (λ (l : List _). drop 1 l) whole)

module _ {X E : Type 0} where
  -- the state of the pool at this position once it is set, given the one before
  abbrev pub settled : List (Result X E) → Pools → ℕ → Entered → Option Entered
  settled answers old i p = cond (is_waiting p) (option_map (after p) (slice_get answers (rank old i))) (Some p)

  -- The states of the pools before position n are set, and their results taken. The others are unchanged.
  pub record AreSettledBelow (answers rest : List (Result X E)) (old new : Pools) (n : ℕ) : Type 0 where
    pub left : rest ≡ drop (rank old n) answers
    pub pools : length new ≡ length old
    pub before : (i : ℕ) (p : Entered) → i < n → slice_get old i ≡ Some p → slice_get new i ≡ settled answers old i p
    pub from : (i : ℕ) → n ≤ i → slice_get new i ≡ slice_get old i

  stood : (answers rest : List (Result X E)) (old new : Pools) (n : ℕ) (e : Entered) → AreSettledBelow answers rest old new n
      → n < length new → e ≡ get_or new n e → slice_get old n ≡ Some e
  stood answers rest old new n e h lt is = sym (h.from n (omega arith)) ∙ slice_get-get_or new n e lt ∙ ap Some (sym is)

  more : (answers rest rest' : List (Result X E)) (old new new' : Pools) (n : ℕ) (e : Entered) → AreSettledBelow answers rest old new n
      → slice_get old n ≡ Some e → rest' ≡ drop (rank old (n + 1)) answers → length new' ≡ length old
      → slice_get new' n ≡ settled answers old n e → ((i : ℕ) → i ≢ n → slice_get new' i ≡ slice_get new i)
      → AreSettledBelow answers rest' old new' (n + 1)
  more answers rest rest' old new new' n e h was left pools here others = record {
    left = left;
    pools = pools;
    before = λ i p lt at. elim (cases_lt i n) [
      | inl less ↦ others i (omega (arith, less)) ∙ h.before i p less at
      | inr ge ↦
          let same : i ≡ n = omega (arith, lt, ge) in
          let is : p ≡ e = ap (λ (o : Option Entered). unwrap_or o p) (sym at ∙ ap (slice_get old) same ∙ was) in
          ap (slice_get new') same ∙ here ∙ sym (ap₂ (settled answers old) same is)
    ];
    from = λ i ge. others i (omega (arith, ge)) ∙ h.from i (omega (arith, ge));
  }

  -- a pool that could not be run stays
  pub stays : (answers rest : List (Result X E)) (old new : Pools) (n : ℕ) (e : Entered) → AreSettledBelow answers rest old new n
      → n < length new → e ≡ get_or new n e → is_waiting e ≡ false → AreSettledBelow answers rest old new (n + 1)
  stays answers rest old new n e h lt is wont =
      let was = stood answers rest old new n e h lt is in
      let short : n < length old = omega (arith, lt, h.pools) in
      let ranked : rank old (n + 1) ≡ rank old n =
      count_by_more_no is_waiting old n e short (ap is_waiting (get_or_from_slice_get old n e e was) ∙ wont) in
      more answers rest rest old new new n e h was (h.left ∙ ap (λ (k : ℕ). drop k answers) (sym ranked)) h.pools
      (h.from n (omega arith) ∙ was ∙ sym (ap (λ (b : Bool). cond b (option_map (after e) (slice_get answers (rank old n))) (Some e)) wont))
      (λ i other. refl)

  ranked_next : (answers rest : List (Result X E)) (old new : Pools) (n : ℕ) (e : Entered) → AreSettledBelow answers rest old new n
      → n < length new → e ≡ get_or new n e → is_waiting e ≡ true → rank old (n + 1) ≡ rank old n + 1
  ranked_next answers rest old new n e h lt is will =
      count_by_more_yes is_waiting old n e (omega (arith, lt, h.pools))
      (ap is_waiting (get_or_from_slice_get old n e e (stood answers rest old new n e h lt is)) ∙ will)

  -- a pool that could be run has the state of the next result
  pub ends : (answers rest rest' : List (Result X E)) (old new : Pools) (n : ℕ) (e : Entered) (a : Result X E)
      → AreSettledBelow answers rest old new n → n < length new → e ≡ get_or new n e → is_waiting e ≡ true → rest ≡ a ∷ rest'
      → AreSettledBelow answers rest' old (slice_set new n (after e a)) (n + 1)
  ends answers rest rest' old new n e a h lt is will next =
      let first = first_of_rest answers (rank old n) a rest' (sym next ∙ h.left) in
      let after_it : suc (rank old n) ≡ rank old (n + 1) = omega (arith, ranked_next answers rest old new n e h lt is will) in
      more answers rest rest' old new (slice_set new n (after e a)) n e h (stood answers rest old new n e h lt is)
      (first.1 ∙ ap (λ (k : ℕ). drop k answers) after_it)
      (length-set new n (after e a) ∙ h.pools)
      (get-set_same new n (after e a) lt
      ∙ sym (ap₂ (λ (b : Bool) (o : Option (Result X E)). cond b (option_map (after e) o) (Some e)) will first.0))
      (λ i other. get-set_other new n i (after e a) other)

  -- there is a result for each pool that could be run
  pub none_lacks : (answers rest : List (Result X E)) (old new : Pools) (n : ℕ) (e : Entered) → AreSettledBelow answers rest old new n
      → n < length new → e ≡ get_or new n e → is_waiting e ≡ true → length answers ≡ count_by is_waiting old → length rest ≡ 0 → ⊥
  none_lacks answers rest old new n e h lt is will each none =
      omega (
        arith,
        ranked_next answers rest old new n e h lt is will,
        each,
        sum_by-take-le (λ p. cond (is_waiting p) 1 0) old (n + 1),
        length-drop (rank old n) answers,
        none,
        ap length h.left,
      )

  pub all_settled : (answers rest : List (Result X E)) (old new : Pools) (n : ℕ) → AreSettledBelow answers rest old new n
      → length new ≤ n → length answers ≡ count_by is_waiting old → AreSettled answers old new
  all_settled answers rest old new n h all each = record {
    each = each;
    pools = h.pools;
    ran = λ i p at will. h.before i p (omega (arith, slice_get_within old i p at, h.pools, all)) at
        ∙ ap (λ (b : Bool). cond b (option_map (after p) (slice_get answers (rank old i))) (Some p)) will;
    others = λ i p at wont. h.before i p (omega (arith, slice_get_within old i p at, h.pools, all)) at
        ∙ ap (λ (b : Bool). cond b (option_map (after p) (slice_get answers (rank old i))) (Some p)) wont;
  }
