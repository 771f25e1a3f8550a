-- A sweep over a block, cell by cell.
use Rattle.pool_blocks.specs.Heats.{mixed, first_or, last_or, sweep}
use Rattle.std.proofs.Common.{◌≡◌, ◌<◌, ◌≤◌, ◌+◌, ◌-◌, ◌^◌, ℕ, zero, suc, ℤ, pos, List, [], ◌∷◌, ◌++◌, length, get_or, drop, true, refl, ap}
use Rattle.std.{proofs.Common.{sym, ◌∙◌, append_assoc, add-one, arith}, specs.Prelude.unsigned_abs}
use Rattle.tp_graph.{proofs.Fits.{fits-from, fit-push}, specs.Values.all_fit}

-- the last of some cells is the one at the last place
last-from : (d e : ℤ) (x : ℤ) (xs : List ℤ) → last_or d (x ∷ xs) ≡ get_or (x ∷ xs) (length xs) e
last-from d e x [] = refl
last-from d e x (y ∷ ys) = last-from x e y ys

pub last_is : (xs : List ℤ) (e : ℤ) → 0 < length xs → last_or (pos 0) xs ≡ get_or xs (length xs - 1) e
last_is [] e h = absurd (omega arith)
last_is (x ∷ xs) e h = let n : length (x ∷ xs) - 1 ≡ length xs =
    omega arith in last-from (pos 0) e x xs ∙ ap (λ m. get_or (x ∷ xs) m e) (sym n)

-- the sweep from a position on, with the cell that it begins with
swept-on : (left right : ℤ) (own : List ℤ) (i : ℕ) (e : ℤ) → i < length own →
    sweep left (drop i own) right ≡ mixed left (get_or own i e) (first_or right (drop (suc i) own))
    ∷ sweep (get_or own i e) (drop (suc i) own) right
swept-on left right [] i e h = absurd (omega arith)
swept-on left right (x ∷ xs) zero e h = refl
swept-on left right (x ∷ xs) (suc i) e h = swept-on left right xs i e (omega arith)

-- the first cell from a position on
pub first_behind : (right : ℤ) (own : List ℤ) (i : ℕ) (e : ℤ) → i < length own → first_or right (drop i own) ≡ get_or own i e
first_behind right [] i e h = absurd (omega arith)
first_behind right (x ∷ xs) zero e h = refl
first_behind right (x ∷ xs) (suc i) e h = first_behind right xs i e (omega arith)

-- one more cell after those that are computed
pub swept_more : (before right : ℤ) (own : List ℤ) (i : ℕ) (cell next after : ℤ) (made all : List ℤ) → i < length own →
    made ++ sweep before (drop i own) right ≡ all → all_fit made ≡ true → cell ≡ first_or (pos 0) (drop i own) →
    after ≡ first_or right (drop (i + 1) own) → next ≡ mixed before cell after → unsigned_abs next < 2 ^ 63 →
    ((made ++ next ∷ []) ++ sweep cell (drop (i + 1) own) right ≡ all) × (all_fit (made ++ next ∷ []) ≡ true)
swept_more before right own i cell next after made all h same fit is behind new small =
    let one : i + 1 ≡ suc i = add-one i in
    let cells : sweep before (drop i own) right ≡ next ∷ sweep cell (drop (i + 1) own) right =
    swept-on before right own i cell h
    ∙ ap (λ x. mixed before x (first_or right (drop (suc i) own))
    ∷ sweep x (drop (suc i) own) right) (sym (is ∙ first_behind (pos 0) own i cell h))
    ∙ ap (λ n. mixed before cell (first_or right (drop n own)) ∷ sweep cell (drop n own) right) (sym one)
    ∙ ap (λ z. mixed before cell z ∷ sweep cell (drop (i + 1) own) right) (sym behind)
    ∙ ap (λ z. z ∷ sweep cell (drop (i + 1) own) right) (sym new) in (
      append_assoc made (next ∷ []) (sweep cell (drop (i + 1) own) right) ∙ ap (λ l. made ++ l) (sym cells) ∙ same,
      fit-push made next fit (fits-from next small),
    )

pub first_past : (right : ℤ) (own : List ℤ) (i : ℕ) → length own ≤ i → first_or right (drop i own) ≡ right
first_past right [] zero h = refl
first_past right [] (suc i) h = refl
first_past right (x ∷ xs) zero h = absurd (omega arith)
first_past right (x ∷ xs) (suc i) h = first_past right xs i (omega arith)
