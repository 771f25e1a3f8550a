-- Rows of sums, to which products are added position by position.
pub mod Running
pub use Running.*

then-fails : {A B : Type 0} (o : Option A) (k : A → Option B) → then_some o k ≡ None → (o ≡ None) ⊎ ((x : A) × (o ≡ Some x) × (k x ≡ None))
then-fails None k e = inl refl
then-fails (Some x) k e = inr (x, refl, e)

some-is-none : {A : Type 0} (x : A) → Some x ≡ None → ⊥
some-is-none x e = absurd (search rules)

-- if nothing is gathered, one number is none
pub gather_lacks : {A : Type 0} (n : ℕ) (f : ℕ → Option A) → gather n f ≡ None → (e : ℕ) × (e < n) × (f e ≡ None)
gather_lacks {A} zero f h = absurd (some-is-none {A = List A} [] h)
gather_lacks {A} (suc n) f h =
    ⊎_elim
    (λ (none : f 0 ≡ None). (0, omega arith, none))
    (λ (some : (x : A) × (f 0 ≡ Some x) × (then_some (gather n (λ s. f (suc s))) (λ rest. Some (x ∷ rest)) ≡ None)).
    ⊎_elim
    (λ (none : gather n (λ s. f (suc s)) ≡ None). let later = gather_lacks n (λ s. f (suc s)) none in (suc later.0, omega arith, later.2))
    (λ (rest : (xs : List A) × (gather n (λ s. f (suc s)) ≡ Some xs)
    × (Some (some.0 ∷ xs) ≡ None)). absurd (some-is-none (some.0 ∷ rest.0) rest.2))
    (then-fails (gather n (λ s. f (suc s))) (λ rest. Some (some.0 ∷ rest)) some.2))
    (then-fails (f 0) (λ x. then_some (gather n (λ s. f (suc s))) (λ rest. Some (x ∷ rest))) h)

-- the first numbers of a row are computed, and the later ones are unchanged
pub record IsPartly (count : ℕ) (f : ℕ → Option ℤ) (before now : List ℤ) : Type 0 where
  pub long : length now ≡ length before
  pub done : (k : ℕ) → k < count → f k ≡ Some (get_or now k (pos 0))
  pub later : (k : ℕ) → count ≤ k → get_or now k (pos 0) ≡ get_or before k (pos 0)

pub one_partly : (count : ℕ) (f : ℕ → Option ℤ) (before now : List ℤ) (next : ℤ) → IsPartly count f before now → count < length now
    → f count ≡ Some next →
    IsPartly (count + 1) f before (set now count next)
one_partly count f before now next kept inside is = record {
  long = length-set now count next ∙ kept.long;
  done = λ k h.
      ⊎_elim
      (λ (same : k ≡ count). subst (λ n. f n ≡ Some (get_or (set now count next) n (pos 0))) (sym same) (is
      ∙ ap Some (sym (get_or-set_same now count next (pos 0) inside))))
      (λ (other : k ≢ count). kept.done k (omega (arith, other)) ∙ ap Some (sym (get_or-set_other now count k next (pos 0) other)))
      (cases_eq k count);
  later = λ k h. let other : k ≢ count = omega arith in get_or-set_other now count k next (pos 0) other ∙ kept.later k (omega arith);
}

pub all_partly : (count : ℕ) (f : ℕ → Option ℤ) (before now : List ℤ) → IsPartly count f before now → length now ≡ count
    → gather count f ≡ Some now
all_partly count f before now kept long = gather-is count f now (pos 0) long kept.done

pub more-by : (b : Bool) (x y : ℤ) → (if b then Some x else None) ≡ Some y → (b ≡ true) × (y ≡ x)
more-by true x y e = (refl, sym (some_same e))
more-by false x y e = absurd (grind arith)

-- a sum and one more is their sum, and fits
pub more_is : (sum number next : ℤ) → more sum number ≡ Some next → (fits next ≡ true) × (next ≡ sum +ℤ number)
more_is sum number next e =
    let is = more-by (fits number && fits (sum +ℤ number)) (sum +ℤ number) next e in
    let both = and_parts (fits number) (fits (sum +ℤ number)) is.0 in
    (ap fits is.1 ∙ both.1, is.1)
