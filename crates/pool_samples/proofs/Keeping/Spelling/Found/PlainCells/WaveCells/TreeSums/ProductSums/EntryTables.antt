-- The tables of entries, compared with the definition at each position by computation.
pub mod Sums
pub use Sums.*

-- the first numbers of a table are those of f
agrees : List ℤ → (ℕ → ℤ) → ℕ → Bool
agrees table f zero = true
agrees table f (suc n) = int_eq (get_or table n (pos 0)) (f n) && agrees table f n

agrees-at : (table : List ℤ) (f : ℕ → ℤ) (n : ℕ) → agrees table f n ≡ true → (p : ℕ) → p < n → get_or table p (pos 0) ≡ f p
unfolding agrees
agrees-at table f n h =
    (Decides-below_and (λ p. int_eq (get_or table p (pos 0)) (f p)) (λ p. get_or table p (pos 0)
    ≡ f p) (agrees table f) (λ p. Decides-int_eq (get_or table p (pos 0)) (f p)) refl (λ k. refl) n).0 h

-- the entry of a residue
of_residue : ℕ → ℤ
of_residue r = pos (r % 21) -ℤ pos 10

left-table : (p : ℕ) → p < 210 → get_or LEFT p (pos 0) ≡ of_residue (7 * (p / 70) + 3 * (p % 70))
unfolding agrees of_residue
left-table = agrees-at LEFT (λ p. of_residue (7 * (p / 70) + 3 * (p % 70))) 210 refl

right-table : (p : ℕ) → p < 84 → get_or RIGHT p (pos 0) ≡ of_residue (5 * p)
unfolding agrees of_residue
right-table = agrees-at RIGHT (λ p. of_residue (5 * p)) 84 refl

pub small_entry : (r : ℕ) → unsigned_abs (pos (r % 21) -ℤ pos 10) ≤ 10
small_entry r = let n : r % 21 < 21 = omega arith in omega (arith, ints)

pub left_at : (seed x z n : ℕ) → z + n < 64 → get_or LEFT ((x + seed) % 3 * 70 + (z + 5 * seed) % 7 + n) (pos 0) ≡ left_entry seed x (z + n)
unfolding of_residue
left_at seed x z n h =
    let run : ℕ = (x + seed) % 3 in
    let place : ℕ = (z + 5 * seed) % 7 + n in
    let inside : place < 70 = omega arith in
    let runs : run < 3 = omega arith in
    let joined : (x + seed) % 3 * 70 + (z + 5 * seed) % 7 + n ≡ run * 70 + place = omega arith in
    let same : (7 * run + 3 * place) % 21 ≡ (7 * x + 3 * (z + n) + seed) % 21 = omega arith in
    ap (λ p. get_or LEFT p (pos 0)) joined
    ∙ left-table (run * 70 + place) (omega arith)
    ∙ ap (λ r. of_residue (7 * r + 3 * ((run * 70 + place) % 70))) (div-mul-add run 70 place inside)
    ∙ ap (λ p. of_residue (7 * run + 3 * p)) (mod-mul-add run 70 place inside)
    ∙ ap (λ r. pos r -ℤ pos 10) same

pub right_at : (place n : ℕ) → place + n < 84 → get_or RIGHT (place + n) (pos 0) ≡ pos (5 * (place + n) % 21) -ℤ pos 10
unfolding of_residue
right_at place n h = right-table (place + n) h

-- the sum of the products of two slices of the tables, the left one of row x from column start on, the right one of
-- column y from row start on
pub slices_sum : (seed x y start place count : ℕ) (left right : List ℤ) → length left ≡ count
    → 5 * place % 21 ≡ (5 * start + 2 * y + seed) % 21 →
    ((n : ℕ) → n < count → get_or left n (pos 0) ≡ left_entry seed x (start + n))
    → ((n : ℕ) → n < count → get_or right n (pos 0) ≡ pos (5 * (place + n) % 21) -ℤ pos 10) →
    sum_from 0 (length left) (λ n. get_or left n (pos 0) *ℤ get_or right n (pos 0)) ≡ sum_from start count (term seed x y)
slices_sum seed x y start place count left right long at lefts rights =
    let same : (n : ℕ) → 5 * (place + n) % 21 ≡ (5 * (start + n) + 2 * y + seed) % 21 = λ n. omega arith in
    ap (λ k. sum_from 0 k (λ n. get_or left n (pos 0) *ℤ get_or right n (pos 0))) long
    ∙ sum_same start count (λ n. get_or left n (pos 0) *ℤ get_or right n (pos 0)) (term seed x y)
    (λ n h. ap (λ a. a *ℤ get_or right n (pos 0)) (lefts n h)
    ∙ ap (λ b. left_entry seed x (start + n) *ℤ b) (rights n h ∙ ap (λ r. pos r -ℤ pos 10) (same n)))
