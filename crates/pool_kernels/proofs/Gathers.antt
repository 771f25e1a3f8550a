-- What is gathered of the numbers below another.
use Rattle.pool_blocks.proofs.JoinedValues.{and_then, gather-more}
use Rattle.pool_kernels.specs.{Kernels.gather_where, Ranks.{rank, nth}}
use Rattle.std.proofs.Common.{◌≡◌, ◌≢◌, ◌<◌, ◌≤◌, ℕ, zero, suc, Bool, true, false, List, [], ◌∷◌, Option, Some, None, if◌then◌else◌, eqb}
use Rattle.std.proofs.{Common.{refl, ap, ◌∙◌, ⊎_elim, arith}, lemmas.Bool.{cases_eq, cases_lt, eq-eqb, false_from_ne_true, ne_eqb}}
use Rattle.tp_graph.{proofs.Valued.gather-same, specs.Values.{gather, then_some}}

-- the numbers below n that have f, by their ranks
nth_step : {A : Type 0} (f : ℕ → Bool) (v : ℕ → Option A) (n : ℕ) (b : Bool)
    → gather (rank f n) (λ s. v (nth f n s)) ≡ gather_where f v n
    → gather (if b then suc (rank f n) else rank f n) (λ s. v (if b then (if eqb s (rank f n) then n else nth f n s) else nth f n s))
    ≡ (if b then and_then (gather_where f v n) (v n) else gather_where f v n)
nth_step f v n true before =
    let m : ℕ = rank f n in
    gather-more m (λ s. v (if eqb s m then n else nth f n s))
    ∙ rw (eq-eqb m m refl)
    (ap (λ o. and_then o (v n))
    (gather-same m (λ s. v (if eqb s m then n else nth f n s)) (λ s. v (nth f n s)) (λ s h. rw (ne_eqb s m (λ e. omega arith)) refl)
    ∙ before))
nth_step f v n false before = before

pub gather-nth : {A : Type 0} (f : ℕ → Bool) (v : ℕ → Option A) (n : ℕ) → gather (rank f n) (λ s. v (nth f n s)) ≡ gather_where f v n
gather-nth f v zero = refl
gather-nth f v (suc n) = nth_step f v n (f n) (gather-nth f v n)

-- ---- where none, one or two numbers have f
pub gather_none : {A : Type 0} (f : ℕ → Bool) (v : ℕ → Option A) (n : ℕ) → ((j : ℕ) → j < n → f j ≡ true → ⊥) → gather_where f v n ≡ Some []
gather_none f v zero h = refl
gather_none f v (suc n) h =
    rw (false_from_ne_true (f n) (h n (omega arith))) (gather_none f v n (λ j q. h j (omega (arith, q))))

pub gather_one : {A : Type 0} (f : ℕ → Bool) (v : ℕ → Option A) (n a : ℕ) → a < n → f a ≡ true
    → ((j : ℕ) → j < n → f j ≡ true → j ≡ a) → gather_where f v n ≡ then_some (v a) (λ x. Some (x ∷ []))
gather_one f v zero a h e only = absurd (omega arith)
gather_one f v (suc n) a h e only =
    ⊎_elim
    (λ (lower : a < n).
    rw (false_from_ne_true (f n) (λ t. omega (arith, only n (omega arith) t)))
    (gather_one f v n a lower e (λ j q. only j (omega (arith, q)))))
    (λ (last : n ≤ a).
    let same : n ≡ a = omega arith in
    rw (same, e, gather_none f v a (λ j q t. omega (arith, only j (omega (arith, q)) t))) refl)
    (cases_lt a n)

-- the two in rising order
pub record AreTwo (f : ℕ → Bool) (n a b : ℕ) : Type 0 where
  pub rise : a < b
  pub below : b < n
  pub first : f a ≡ true
  pub second : f b ≡ true
  pub only : (j : ℕ) → j < n → f j ≡ true → (j ≢ a) → j ≡ b

pub gather_two : {A : Type 0} (f : ℕ → Bool) (v : ℕ → Option A) (n a b : ℕ) → AreTwo f n a b
    → gather_where f v n ≡ and_then (then_some (v a) (λ x. Some (x ∷ []))) (v b)
gather_two f v zero a b two = absurd (omega (arith, two.below))
gather_two f v (suc n) a b two =
    ⊎_elim
    (λ (lower : b < n).
    rw (false_from_ne_true (f n) (λ t. omega (arith, two.only n (omega arith) t (λ e. omega (arith, e, two.rise)))))
    (gather_two f v n a b (record {
      rise = two.rise;
      below = lower;
      first = two.first;
      second = two.second;
      only = λ j q. two.only j (omega (arith, q));
    })))
    (λ (last : n ≤ b).
    let same : n ≡ b = omega (arith, two.below) in
    rw (
      same,
      two.second,
      gather_one f v b a two.rise two.first (λ j q t.
          ⊎_elim (λ (e : j ≡ a). e) (λ (e : j ≢ a). absurd (omega (arith, two.only j (omega (arith, q)) t e))) (cases_eq j a)),
    ) refl)
    (cases_lt b n)

-- what there is if something is computed from one, or two, that are gathered
pub from_one : {A B : Type 0} (o : Option A) (k : List A → Option B) (y : B)
    → then_some (then_some o (λ x. Some (x ∷ []))) k ≡ Some y → (a : A) × (o ≡ Some a) × (k (a ∷ []) ≡ Some y)
from_one None k y e = absurd (cc)
from_one (Some a) k y e = (a, refl, e)

pub from_two : {A B : Type 0} (o p : Option A) (k : List A → Option B) (y : B)
    → then_some (and_then (then_some o (λ x. Some (x ∷ []))) p) k ≡ Some y
    → (a : A) × (b : A) × (o ≡ Some a) × (p ≡ Some b) × (k (a ∷ b ∷ []) ≡ Some y)
from_two None p k y e = absurd (cc)
from_two (Some a) None k y e = absurd (cc)
from_two (Some a) (Some b) k y e = (a, b, refl, refl, e)
