-- How the number of a finite map's values that pass a test moves.
pub mod Filling
pub use Filling.*

pub later_sorted : (a b : Bool) → T (a && b) → T b
later_sorted true b h = h
later_sorted false b h = absurd h

module _ {X : Type 0} where
  -- a key below the first is not found
  not_found : (k : ℕ) (v : X) (e : ℕ × X) (es : List (ℕ × X)) → T (is_sorted nat_cmp (e ∷ es)) → nat_cmp k e.0 ≡ Less
      → find nat_cmp k es ≡ None
  not_found k v e es h less =
      let long : length (by_order (nat_cmp k e.0) ((k, v) ∷ e ∷ es) ((e.0, v) ∷ es) (e ∷ put nat_cmp k v es))
      ≡ cond (is_some (find nat_cmp k (e ∷ es))) (suc (length es)) (suc (length es) + 1) =
      length-put nat_cmp nat_cmp_total k v (e ∷ es) h in
      let longer : suc (suc (length es)) ≡ cond (is_some (find nat_cmp k es)) (suc (length es)) (suc (length es) + 1) = rw less at long in
      (elim (find nat_cmp k es) as (λ (o : Option X). suc (suc (length es)) ≡ cond (is_some o) (suc (length es)) (suc (length es) + 1)
      → o ≡ None) [
        | None ↦ λ _. refl
        | Some x ↦ λ more. absurd (omega arith)
      ]) longer

module _ {X : Type 0} (test : X → Bool) where
  -- what a value that may be there counts
  abbrev pub one_if : Option X → ℕ
  one_if None = 0
  one_if (Some x) = cond (test x) 1 0

  abbrev pub passing : List (ℕ × X) → ℕ
  passing = count_by (λ e. test e.1)

  pub passing-cons : (e : ℕ × X) (es : List (ℕ × X)) → passing (e ∷ es) ≡ cond (test e.1) 1 0 + passing es
  passing-cons e es = sum_by-cons (λ f. cond (test f.1) 1 0) e es

  passing-put : (k : ℕ) (v : X) (es : List (ℕ × X)) → T (is_sorted nat_cmp es)
      → passing (put nat_cmp k v es) + one_if (find nat_cmp k es) ≡ passing es + cond (test v) 1 0
  passing-put k v [] h = omega (arith, passing-cons (k, v) [])
  passing-put k v (e ∷ es) h =
      elim (nat_cmp k e.0) as (λ r. nat_cmp k e.0 ≡ r
      → passing (by_order r ((k, v) ∷ e ∷ es) ((e.0, v) ∷ es) (e ∷ put nat_cmp k v es)) + one_if (cond (is_eq r) (Some e.1)
      (find nat_cmp k es)) ≡ passing (e ∷ es) + cond (test v) 1 0) [
        | Less ↦ λ less.
            rw (not_found k v e es h less) (omega (arith, passing-cons (k, v) (e ∷ es)))
        | Equal ↦ λ same. omega (arith, passing-cons (e.0, v) es, passing-cons e es)
        | Greater ↦ λ more. omega (arith, passing-cons e (put nat_cmp k v es), passing-cons e es, passing-put k v es (later_sorted _ _ h))
      ] refl

  pub passing-insert : (m : finite.FinMap nat_cmp X) (k : ℕ) (v : X)
      → passing (finite.entries (finite.insert m k v)) + one_if (finite.get m k) ≡ passing (finite.entries m) + cond (test v) 1 0
  passing-insert m k v =
      rw (finite.entries-insert nat_cmp_total m k v, finite.get-entries m k) (passing-put k v (finite.entries m) (finite.entries_sorted m))

-- tasks that are not done wait, are ready or run
pub unfinished_sum : {V : Type 0} (es : List (ℕ × Task V))
    → count_by (λ e. is_unfinished e.1.life) es
    ≡ count_by (λ e. is_waiting e.1.life) es + count_by (λ e. is_ready e.1.life) es + count_by (λ e. is_running e.1.life) es
unfinished_sum [] = refl
unfinished_sum {V} (e ∷ es) =
    omega (
      arith,
      unfinished_sum es,
      passing-cons (λ (x : Task V). is_unfinished x.life) e es,
      passing-cons (λ (x : Task V). is_waiting x.life) e es,
      passing-cons (λ (x : Task V). is_ready x.life) e es,
      passing-cons (λ (x : Task V). is_running x.life) e es,
      one_of e.1.life,
    )
  where
    one_of : (life : Life)
        → cond (is_unfinished life) 1 0 ≡ cond (is_waiting life) 1 0 + cond (is_ready life) 1 0 + cond (is_running life) 1 0
    one_of (Waiting k) = refl
    one_of Ready = refl
    one_of Running = refl
    one_of Over = refl

module _ {V : Type 0} where
  pub unfinished_counted : (s : Content V) (counts : Counts) → counts ≡ counts_of s
      → unfinished s ≡ counts.waiting + counts.ready + counts.running
  unfinished_counted s counts e = unfinished_sum (finite.entries s.tasks) ∙ ap (λ k. k.waiting + k.ready + k.running) (sym e)
