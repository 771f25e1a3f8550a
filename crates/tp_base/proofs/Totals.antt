-- Lemmas about sums over nodes, or over processes.
use Rattle.std.proofs.{Common.{◌≡◌, ℕ, zero, suc, ◌+◌, ◌<◌, ◌≤◌, refl, sym, inl, inr, arith, add-one}, lemmas.Bool.cases_eq}
use Rattle.tp_base.specs.Totals.{total}

pub total-le : (n : ℕ) (f g : ℕ → ℕ) → ((i : ℕ) → i < n → f i ≤ g i) → total n f ≤ total n g
total-le zero f g h = omega arith
total-le (suc n) f g h = omega (arith, total-le n f g (λ i l. h i (omega arith)), h n (omega arith))

-- If no term of f exceeds that of g and the sums are equal, the terms are equal.
pub total_same : (n : ℕ) (f g : ℕ → ℕ) → ((i : ℕ) → i < n → f i ≤ g i) → total n g ≤ total n f → (i : ℕ) → i < n → f i ≡ g i
total_same zero f g h e i l = absurd (omega arith)
total_same (suc n) f g h e i l =
    let less : (j : ℕ) → j < n → f j ≤ g j = λ j k. h j (omega arith) in
    let sums : total n f ≤ total n g = total-le n f g less in
    elim (cases_eq i n) [
      | inl at ↦ rw at (omega (arith, h n (omega arith)))
      | inr off ↦ total_same n f g less (omega (arith, h n (omega arith))) i (omega arith)
    ]

-- functions that are equal below n
pub total-equal : (n : ℕ) (f g : ℕ → ℕ) → ((i : ℕ) → i < n → f i ≡ g i) → total n f ≡ total n g
total-equal zero f g h = refl
total-equal (suc n) f g h = omega (arith, total-equal n f g (λ i l. h i (omega arith)), h n (omega arith))

-- one term is larger by k, the others are equal
pub total_one-changes : (n a k : ℕ) (f g : ℕ → ℕ) → a < n → g a ≡ f a + k → ((i : ℕ) → (i ≡ a → ⊥) → g i ≡ f i) → total n g ≡ total n f + k
total_one-changes zero a k f g l at off = absurd (omega arith)
total_one-changes (suc n) a k f g l at off =
    elim (cases_eq a n) [
      | inl e ↦ omega (arith, total-equal n g f (λ i k. off i (omega arith)), rw e at at)
      | inr d ↦ omega (arith, total_one-changes n a k f g (omega arith) at off, off n (λ e. d (sym e)))
    ]

pub total-zero : (n : ℕ) → total n (λ i. 0) ≡ 0
total-zero zero = refl
total-zero (suc n) = omega (arith, total-zero n)

pub total_more : (n : ℕ) (f : ℕ → ℕ) → total (n + 1) f ≡ total n f + f n
total_more n f = rw add-one refl
