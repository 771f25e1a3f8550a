-- Lists whose numbers have 64 bits.
use Rattle.std.proofs.Common.{◌≡◌, ℕ, zero, suc, ℤ, Bool, List, [], ◌∷◌, ◌++◌, take, drop, true, false, if◌then◌else◌, refl}
use Rattle.std.proofs.lemmas.Bool.{and_parts, and_from}
use Rattle.tp_graph.specs.Values.{all_fit, fits}
use Rattle.pool_blocks.specs.Lists.{at, list_of}

pub take-fits : (n : ℕ) (xs : List ℤ) → all_fit xs ≡ true → all_fit (take n xs) ≡ true
take-fits zero xs h = refl
take-fits (suc n) [] h = refl
take-fits (suc n) (x ∷ xs) h = let both =
    and_parts (fits x) (all_fit xs) h in and_from (fits x) (all_fit (take n xs)) both.0 (take-fits n xs both.1)

pub drop-fits : (n : ℕ) (xs : List ℤ) → all_fit xs ≡ true → all_fit (drop n xs) ≡ true
drop-fits zero xs h = h
drop-fits (suc n) [] h = refl
drop-fits (suc n) (x ∷ xs) h = drop-fits n xs (and_parts (fits x) (all_fit xs) h).1

pub append-fits : (xs ys : List ℤ) → all_fit xs ≡ true → all_fit ys ≡ true → all_fit (xs ++ ys) ≡ true
append-fits [] ys p q = q
append-fits (x ∷ xs) ys p q = let both =
    and_parts (fits x) (all_fit xs) p in and_from (fits x) (all_fit (xs ++ ys)) both.0 (append-fits xs ys both.1 q)

pub list-fits : (count : ℕ) (f : ℕ → ℤ) → ((e : ℕ) → fits (f e) ≡ true) → all_fit (list_of count f) ≡ true
list-fits zero f h = refl
list-fits (suc count) f h =
    and_from (fits (f 0)) (all_fit (list_of count (λ e. f (suc e)))) (h 0) (list-fits count (λ e. f (suc e)) (λ e. h (suc e)))

pub at-fits : (xs : List ℤ) (i : ℕ) → all_fit xs ≡ true → fits (at xs i) ≡ true
at-fits [] i h = refl
at-fits (x ∷ xs) zero h = (and_parts (fits x) (all_fit xs) h).0
at-fits (x ∷ xs) (suc i) h = at-fits xs i (and_parts (fits x) (all_fit xs) h).1

-- one of two numbers, and one of two lists
pub one-fits : (c : Bool) (x y : ℤ) → fits x ≡ true → fits y ≡ true → fits (if c then x else y) ≡ true
one-fits true x y p q = p
one-fits false x y p q = q

pub one-list-fits : (c : Bool) (xs ys : List ℤ) → all_fit xs ≡ true → all_fit ys ≡ true → all_fit (if c then xs else ys) ≡ true
one-list-fits true xs ys p q = p
one-list-fits false xs ys p q = q
