-- The columns of each row are sums of 1, 2, 4 and so on numbers up to the column's.
use Rattle.pool_blocks.specs.Lists.{at, list_of}
use Rattle.pool_kernels.{proofs.{Cells.{cell_first, cell_from_one, cell_from_two}, Gathers.AreTwo, Rows.row_of_blocks}, specs.Kernels.cell}
use Rattle.pool_kernels.specs.{Kernels.row_at, Sums.sum_to}
use Rattle.prefix.specs.Prefixes.{doubling, prefix_rule, prefixes}
use Rattle.std.proofs.Common.{◌≡◌, ◌≢◌, ◌<◌, ◌≤◌, ◌+◌, ◌-◌, ◌*◌, ◌^◌, ◌||◌, ℕ, zero, suc, ℤ, pos, ◌+ℤ◌, Bool, true, false, List, [], ◌∷◌}
use Rattle.std.proofs.{Common.{length, Some, refl, ap, sym, ◌∙◌, ⊎_elim, arith}, Math.IntN.{+ℤ_assoc, +ℤ_idl}, lemmas.Bool.cases_lt}
use Rattle.std.{proofs.lemmas.{Bool.{cases_eq, eq-eqb, eqb-true, ne_eqb}, Nat.{pow-add, pow_below, pow_pos}}, specs.Prelude.◌==◌}
use Rattle.tp_graph.{proofs.Made.{some_same, then_some-is}, specs.Values.{lone_of, then_some}}

pub too_far : (t j i : ℕ) → 20 < t → i < 2 ^ 20 → ((j + 2 ^ (t - 1)) == i) ≡ false
too_far t j i h small =
    let far : 2 ^ 20 ≤ 2 ^ (t - 1) = ⊎_elim (λ (c : 20 < t - 1). omega (arith, pow_below 20 (t - 1) c)) (λ (c : t - 1 ≤ 20).
    let same : 20 ≡ t - 1 = omega (arith, h, c) in omega (arith, ap (λ k. 2 ^ k) same)) (cases_lt 20 (t - 1)) in
    ne_eqb (j + 2 ^ (t - 1)) i (λ e. absurd (omega (arith, e, small, far)))

-- ---- which columns feed one
or_true : (b c : Bool) → (b || c) ≡ true → (b ≡ false) → c ≡ true
or_true true c h e = absurd (cc)
or_true false c h e = h

or_first : (b c : Bool) → b ≡ true → (b || c) ≡ true
or_first true c e = refl
or_first false c e = absurd (cc)

or_second : (b c : Bool) → c ≡ true → (b || c) ≡ true
or_second true c e = refl
or_second false c e = e

-- in row t + 1
abbrev feeding : ℕ → ℕ → ℕ → Bool
feeding t j i = (j == i) || ((j + 2 ^ t) == i)

other_is : (t j i : ℕ) → feeding t j i ≡ true → j ≢ i → j + 2 ^ t ≡ i
other_is t j i e other = eqb-true (j + 2 ^ t) i (or_true (j == i) ((j + 2 ^ t) == i) e (ne_eqb j i other))

back : (t j i : ℕ) → doubling (suc t) j i ≡ feeding t j i
back t j i = let e : suc t - 1 ≡ t = omega arith in ap (λ k. (j == i) || ((j + 2 ^ k) == i)) e

own_feeds : (t i : ℕ) → doubling (suc t) i i ≡ true
own_feeds t i = back t i i ∙ or_first (i == i) ((i + 2 ^ t) == i) (eq-eqb i i refl)

only_own : (t i j : ℕ) → i < 2 ^ t → doubling (suc t) j i ≡ true → j ≡ i
only_own t i j low e =
    ⊎_elim (λ (same : j ≡ i). same)
    (λ (other : j ≢ i). absurd (omega (arith, low, other_is t j i (sym (back t j i) ∙ e) other))) (cases_eq j i)

two_feed : (w t i : ℕ) → i < w → 2 ^ t ≤ i → AreTwo (λ j. doubling (suc t) j i) w (i - 2 ^ t) i
two_feed w t i h high =
    let some : 0 < 2 ^ t = pow_pos t in
    let there : i - 2 ^ t + 2 ^ t ≡ i = omega (arith, high) in
    record {
      rise = omega (arith, high, some);
      below = h;
      first = back t (i - 2 ^ t) i ∙ or_second ((i - 2 ^ t) == i) ((i - 2 ^ t + 2 ^ t) == i) (eq-eqb (i - 2 ^ t + 2 ^ t) i there);
      second = own_feeds t i;
      only = λ j q e other.
          ⊎_elim (λ (same : j ≡ i). same)
          (λ (no : j ≢ i). absurd (other (omega (arith, other_is t j i (sym (back t j i) ∙ e) no)))) (cases_eq j i);
    }

-- ---- the values
-- the value of a column is one number, which adds the last 2 ^ t numbers to the sum of those before them
record IsSum (xs : List ℤ) (t i : ℕ) (value : List ℤ) : Type 0 where
  number : ℤ
  is : value ≡ number ∷ []
  adds : sum_to (i + 1) (at xs) ≡ sum_to (i + 1 - 2 ^ t) (at xs) +ℤ number

lone_is : (x : List ℤ) (a : ℤ) → lone_of x ≡ Some a → x ≡ a ∷ []
lone_is [] a e = absurd (cc)
lone_is (b ∷ []) a e = ap (λ z. z ∷ []) (some_same e)
lone_is (b ∷ c ∷ rest) a e = absurd (cc)

abbrev first_or_zero : List ℤ → ℤ
first_or_zero [] = pos 0
first_or_zero (a ∷ rest) = a

double : (t : ℕ) → 2 ^ suc t ≡ 2 ^ t + 2 ^ t
double t = let next : suc t ≡ t + 1 = omega arith in ap (λ k. 2 ^ k) next ∙ pow-add 2 t 1 ∙ omega arith

two_sums : (xs : List ℤ) (t i : ℕ) (a b : ℤ) → 2 ^ t ≤ i
    → sum_to (i - 2 ^ t + 1) (at xs) ≡ sum_to (i - 2 ^ t + 1 - 2 ^ t) (at xs) +ℤ a
    → sum_to (i + 1) (at xs) ≡ sum_to (i + 1 - 2 ^ t) (at xs) +ℤ b
    → sum_to (i + 1) (at xs) ≡ sum_to (i + 1 - 2 ^ suc t) (at xs) +ℤ (a +ℤ b)
two_sums xs t i a b high left own =
    let here : i + 1 - 2 ^ t ≡ i - 2 ^ t + 1 = omega (arith, high) in
    let start : i - 2 ^ t + 1 - 2 ^ t ≡ i + 1 - 2 ^ suc t = omega (arith, high, double t) in
    own ∙ ap (λ n. sum_to n (at xs) +ℤ b) here ∙ ap (λ z. z +ℤ b) left
    ∙ ap (λ n. (sum_to n (at xs) +ℤ a) +ℤ b) start ∙ +ℤ_assoc (sum_to (i + 1 - 2 ^ suc t) (at xs)) a b

sum_is : (xs : List ℤ) (w t i : ℕ) (value : List ℤ) → i < w → cell doubling (prefix_rule xs) w t i ≡ Some value → IsSum xs t i value
sum_is xs w zero i value h e =
    let next : i + 1 ≡ suc i = omega arith in
    let start : i ≡ i + 1 - 2 ^ zero = omega arith in
    record {
      number = at xs i;
      is = sym (some_same (cell_first doubling (prefix_rule xs) w i value e));
      adds = ap (λ n. sum_to n (at xs)) next ∙ ap (λ n. sum_to n (at xs) +ℤ at xs i) start;
    }
sum_is xs w (suc t) i value h e =
    ⊎_elim
    (λ (low : i < 2 ^ t).
    let one = cell_from_one doubling (prefix_rule xs) w t i i value h (own_feeds t i) (λ j q p. only_own t i j low p) e in
    let before = sum_is xs w t i one.0 h one.1 in
    let start : i + 1 - 2 ^ t ≡ i + 1 - 2 ^ suc t = omega (arith, low, double t) in
    record {
      number = before.number;
      is = sym (some_same one.2) ∙ before.is;
      adds = before.adds ∙ ap (λ n. sum_to n (at xs) +ℤ before.number) start;
    })
    (λ (high : 2 ^ t ≤ i).
    let two = cell_from_two doubling (prefix_rule xs) w t i (i - 2 ^ t) i value (two_feed w t i h high) e in
    let left = sum_is xs w t (i - 2 ^ t) two.0 (omega (arith, h)) two.2 in
    let own = sum_is xs w t i two.1 h two.3 in
    let made = then_some-is (lone_of two.0) (λ a. then_some (lone_of two.1) (λ b. Some ((a +ℤ b) ∷ []))) value two.4 in
    let rest = then_some-is (lone_of two.1) (λ b. Some ((made.0 +ℤ b) ∷ [])) value made.2 in
    let first : left.number ≡ made.0 = ap first_or_zero (sym left.is ∙ lone_is two.0 made.0 made.1) in
    let second : own.number ≡ rest.0 = ap first_or_zero (sym own.is ∙ lone_is two.1 rest.0 rest.1) in
    record {
      number = left.number +ℤ own.number;
      is = sym (some_same rest.2) ∙ ap (λ z. (z +ℤ rest.0) ∷ []) (sym first) ∙ ap (λ z. (left.number +ℤ z) ∷ []) (sym second);
      adds = two_sums xs t i left.number own.number high left.adds own.adds;
    })
    (cases_lt i (2 ^ t))

-- a row whose columns have all numbers up to theirs
pub sums_are : (xs : List ℤ) (rows : ℕ) (row : List ℤ) → length xs ≤ 2 ^ (rows - 1)
    → row_at doubling (prefix_rule xs) (length xs) (rows - 1) ≡ Some row → row ≡ prefixes xs
sums_are xs rows row enough e =
    let n : ℕ = length xs in
    let all : n * 1 ≡ n = omega arith in
    row_of_blocks doubling (prefix_rule xs) n (rows - 1) 1 (λ i. sum_to (i + 1) (at xs)) row
    (λ i value h p.
    let sum = sum_is xs n (rows - 1) i value h p in
    let none : i + 1 - 2 ^ (rows - 1) ≡ 0 = omega (arith, h, enough) in
    let whole : sum_to (i + 1) (at xs) ≡ sum.number =
    sum.adds ∙ ap (λ k. sum_to k (at xs) +ℤ sum.number) none ∙ +ℤ_idl sum.number in
    let place : i * 1 + 0 ≡ i = omega arith in
    sum.is ∙ ap (λ z. z ∷ []) (sym whole) ∙ ap (λ k. sum_to (k + 1) (at xs) ∷ []) (sym place))
    e
    ∙ ap (λ k. list_of k (λ i. sum_to (i + 1) (at xs))) all
