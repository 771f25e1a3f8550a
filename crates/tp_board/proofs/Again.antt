-- Each node's opening action is opened again, once.
use Rattle.std.proofs.Common.{ℕ, zero, suc, refl, ◌+◌, ◌≡◌, ◌<◌, ◌≤◌, List, [], ◌∷◌, ◌++◌, Option, Some, None, ap, ◌∙◌, map, length-append}
use Rattle.std.proofs.{Common.{length, inl, inr, arith}, lemmas.{Bool.cases_eq, List.{get_or-set_same, get_or-set_other}}}
use Rattle.std.specs.Prelude.{slice_index, slice_set, MatchOption}
use Rattle.tp_base.{proofs.Totals.{total-equal, total-zero, total_same, total_one-changes}, specs.Totals.total}
use Rattle.tp_board.specs.{Numbers.{PartNumbers, ShareNumbers, PendingNumber}, Reopening.{AllAre, opened_again, with_numbers, begun_anew}}

pub one_more : (n a : ℕ) (books : List ℕ) → a < n → a < length books
    → total n (λ i. slice_index (slice_set books a (slice_index books a + 1)) i) ≡ total n (λ i. slice_index books i) + 1
one_more n a books inside known =
    total_one-changes n a 1 (λ i. slice_index books i) (λ i. slice_index (slice_set books a (slice_index books a + 1)) i) inside
    (get_or-set_same books a (slice_index books a + 1) 0 known) (λ i off. get_or-set_other books a i (slice_index books a + 1) 0 off)

pub at_most_one : (n a : ℕ) (books : List ℕ) → a < length books → slice_index books a ≡ 0 → ((i : ℕ) → i < n → slice_index books i ≤ 1)
    → (i : ℕ) → i < n → slice_index (slice_set books a (slice_index books a + 1)) i ≤ 1
at_most_one n a books known none few i l =
    elim (cases_eq i a) [
      | inl at ↦ rw at (omega (arith, get_or-set_same books a (slice_index books a + 1) 0 known, none))
      | inr off ↦ omega (arith, get_or-set_other books a i (slice_index books a + 1) 0 off, few i l)
    ]

pub none_open : (n : ℕ) (books : List ℕ) → AllAre n 0 books → total n (λ i. slice_index books i) ≡ 0
none_open n books none = total-equal n (λ i. slice_index books i) (λ i. 0) none ∙ total-zero n

pub length-more : {A : Type 0} (xs : List A) (x : A) → length (xs ++ x ∷ []) ≡ length xs + 1
length-more xs x = simp length-append (omega arith)

pub parts-joined : (all : Option PartNumbers) (result part : PartNumbers) (k : ℕ)
    → MatchOption all (result ≡ part) (λ a. result.parts ≡ a.parts + part.parts)
    → MatchOption all (k ≡ 0) (λ p. p.parts ≡ k) → part.parts ≡ 1 → result.parts ≡ k + 1
parts-joined None result part k j m one = omega (arith, ap (λ (p : PartNumbers). p.parts) j, m, one)
parts-joined (Some a) result part k j m one = omega (arith, j, m, one)

-- If each of n numbers is at most 1 and their sum is n, each is 1.
pub all_one : (n : ℕ) (books : List ℕ) → ((i : ℕ) → i < n → slice_index books i ≤ 1) → total n (λ i. slice_index books i) ≡ n
    → AllAre n 1 books
all_one n books few sum = total_same n (λ i. slice_index books i) (λ i. 1) few (omega (arith, sum, total_ones n))
  where
    total_ones : (n : ℕ) → total n (λ i. 1) ≡ n
    total_ones zero = refl
    total_ones (suc n) = omega (arith, total_ones n)

anew_of : (xs : List ShareNumbers) → map with_numbers (map opened_again xs) ≡ map begun_anew xs
anew_of [] = refl
anew_of (x ∷ xs) = ap (λ ys. begun_anew x ∷ ys) (anew_of xs)

pub anew : (pendings : List PendingNumber) (shares : List ShareNumbers) → pendings ≡ map opened_again shares
    → map with_numbers pendings ≡ map begun_anew shares
anew pendings shares e = ap (map with_numbers) e ∙ anew_of shares
