-- Running sums, which fail if an intermediate number does not fit 64 bits.
pub mod Words
pub use Words.*

-- one number more
pub running_more : (first : ℤ) (start count : ℕ) (f : ℕ → ℤ) (sum number : ℤ) (next : Option ℤ) → running first start count f ≡ Some sum
    → number ≡ f (start + count) → more sum number ≡ next →
    running first start (count + 1) f ≡ next
running_more first start count f sum number next e is m =
    let one : count + 1 ≡ suc count = add-one count in
    ap (λ n. running first start n f) one ∙ ap (λ o. then_some o (λ s. more s (f (start + count)))) e ∙ ap (more sum) (sym is) ∙ m

-- a sum that has failed stays so
pub none_stays : (first : ℤ) (start count later : ℕ) (f : ℕ → ℤ) → running first start count f ≡ None → count ≤ later
    → running first start later f ≡ None
none_stays first start zero later f e h = absurd (search rules)
none_stays first start (suc count) zero f e h = absurd (omega arith)
none_stays first start (suc count) (suc later) f e h =
    ⊎_elim
    (λ (same : count ≡ later). ap (λ n. running first start (suc n) f) (sym same) ∙ e)
    (λ (other : count ≢ later). ap (λ o.
    then_some o (λ s. more s (f (start + later)))) (none_stays first start (suc count) later f e (omega (arith, other))))
    (cases_eq count later)

-- a sum continues from where it was
pub running_joined : (first : ℤ) (start some more_of : ℕ) (f : ℕ → ℤ) (sum : ℤ) → running first start some f ≡ Some sum
    → running first start (some + more_of) f ≡ running sum (start + some) more_of f
running_joined first start some zero f sum e = rw (add-zero some) e
running_joined first start some (suc later) f sum e =
    let place : start + (some + later) ≡ start + some + later = omega arith in
    ap (λ n. running first start n f) (add-suc some later)
    ∙ ap (λ o. then_some o (λ s. more s (f (start + (some + later))))) (running_joined first start some later f sum e)
    ∙ ap (λ k. then_some (running sum (start + some) later f) (λ s. more s (f k))) place

pub gather_more : {A : Type 0} (n : ℕ) (f : ℕ → Option A) (xs : List A) (y : A) → gather n f ≡ Some xs → f n ≡ Some y
    → gather (suc n) f ≡ Some (xs ++ y ∷ [])
gather_more n f xs y e h = gather-more n f ∙ ap (λ o. and_then o (f n)) e ∙ ap (and_then (Some xs)) h

then-none : {A B : Type 0} (o : Option A) → then_some {B = B} o (λ x. None) ≡ None
then-none None = refl
then-none (Some x) = refl

-- if one number is none, nothing is gathered
pub gather_fails : {A : Type 0} (n e : ℕ) (f : ℕ → Option A) → e < n → f e ≡ None → gather n f ≡ None
gather_fails zero e f h none = absurd (omega arith)
gather_fails (suc n) zero f h none = ap (λ o. then_some o (λ x. then_some (gather n (λ s. f (suc s))) (λ rest. Some (x ∷ rest)))) none
gather_fails {A} (suc n) (suc e) f h none =
    ap (λ o. then_some (f 0) (λ x. then_some o (λ rest. Some (x ∷ rest)))) (gather_fails n e (λ s. f (suc s)) (omega arith) none)
    ∙ then-none (f 0)

-- the tiles of a task are within the matrices
pub places_within : (t tiles side : ℕ) → 1 ≤ tiles → t < tiles * tiles * tiles →
    (t / tiles / tiles * side + side ≤ tiles * side) × (t / tiles % tiles * side + side ≤ tiles * side)
    × (t % tiles * side + side ≤ tiles * side)
places_within t tiles side some h =
    let within : (c : ℕ) → c < tiles → c * side + side ≤ tiles * side =
    λ c p. omega (arith, mul-le (c + 1) side tiles side (omega arith) (omega arith)) in
    let upper : t / tiles < tiles * tiles = div_below t tiles (tiles * tiles) some h in (
      within (t / tiles / tiles) (div_below (t / tiles) tiles tiles some upper),
      within (t / tiles % tiles) (omega arith),
      within (t % tiles) (omega arith),
    )

-- a task is one of the tasks
pub known : (tiles i j k : ℕ) → i < tiles → j < tiles → k < tiles → (i * tiles + j) * tiles + k < tiles * tiles * tiles
known tiles i j k p q r =
    let upper : i * tiles + j < tiles * tiles = omega (arith, mul-add-lt i tiles j tiles p q) in
    omega (arith, mul-add-lt (i * tiles + j) tiles k (tiles * tiles) upper r)

-- 102 tiles along a side give too many tasks
pub too_many : (tiles : ℕ) → 101 < tiles → 2 ^ 20 ≤ tiles * tiles * tiles
too_many tiles h =
    let square : 102 * 102 ≤ tiles * tiles = mul-le 102 102 tiles tiles (omega arith) (omega arith) in
    omega (arith, mul-le (102 * 102) 102 (tiles * tiles) tiles square (omega arith))
