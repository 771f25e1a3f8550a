-- A step of a rod is one of its blocks, and every cell fits 64 bits.
use Rattle.pool_blocks.specs.{Heats.{block_heated, first_or, heated, last_or, mixed, sweep, third}, ListLaws.{block-long, lt-tells}}
use Rattle.pool_blocks.specs.{Lists.{block_before, block_behind}, Stencils.{IsByBlocks, KeepsFit, KeepsLength}, Sums.{abs-neg, plus-small}}
use Rattle.std.proofs.Common.{◌≡◌, ◌<◌, ◌≤◌, ◌+◌, ◌-◌, ◌*◌, ◌/◌, ◌^◌, ℕ, zero, suc, ℤ, pos, negsuc, neg_ℤ, ◌+ℤ◌, Bool, List, [], ◌∷◌, ◌++◌}
use Rattle.std.proofs.Common.{length, take, drop, true, false, if◌then◌else◌, nat_lt, length-take, length-drop, refl, ap, sym, ◌∙◌, ⊎_elim}
use Rattle.std.proofs.{Common.arith, Math.Seq.take-add, lemmas.{Bool.{and_parts, and_from, Decides.nat_tests}, List.drop-drop, Nat.mul-le}}
use Rattle.std.specs.Prelude.{unsigned_abs}
use Rattle.tp_graph.{proofs.Fits.fits-from, specs.{Blocks.block_of, Values.{all_fit, fits}}}

swept-length : (l : ℤ) (xs : List ℤ) (r : ℤ) → length (sweep l xs r) ≡ length xs
swept-length l [] r = refl
swept-length l (x ∷ xs) r = ap suc (swept-length x xs r)

pub heated-long : KeepsLength heated
heated-long cells = swept-length (pos 0) cells (pos 0)

first-of : (n : ℕ) (xs : List ℤ) (r : ℤ) → first_or r xs ≡ first_or (first_or r (drop n xs)) (take n xs)
first-of zero xs r = refl
first-of (suc n) [] r = refl
first-of (suc n) (x ∷ xs) r = refl

take-swept : (n : ℕ) (l : ℤ) (xs : List ℤ) (r : ℤ) → take n (sweep l xs r) ≡ sweep l (take n xs) (first_or r (drop n xs))
take-swept zero l xs r = refl
take-swept (suc n) l [] r = refl
take-swept (suc n) l (x ∷ xs) r =
    ap (λ z. mixed l x z ∷ take n (sweep x xs r)) (first-of n xs r)
    ∙ ap (λ m. mixed l x (first_or (first_or r (drop n xs)) (take n xs)) ∷ m) (take-swept n x xs r)

drop-swept : (n : ℕ) (l : ℤ) (xs : List ℤ) (r : ℤ) → drop n (sweep l xs r) ≡ sweep (last_or l (take n xs)) (drop n xs) r
drop-swept zero l xs r = refl
drop-swept (suc n) l [] r = refl
drop-swept (suc n) l (x ∷ xs) r = drop-swept n x xs r

-- the last of some cells and of those after them
last-joined : (d : ℤ) (xs ys : List ℤ) → last_or d (xs ++ ys) ≡ last_or (last_or d xs) ys
last-joined d [] ys = refl
last-joined d (x ∷ xs) ys = last-joined x xs ys

last-any : (d e : ℤ) (xs : List ℤ) → 0 < length xs → last_or d xs ≡ last_or e xs
last-any d e [] h = absurd (omega arith)
last-any d e (x ∷ xs) h = refl

first-any : (d : ℤ) (n : ℕ) (xs : List ℤ) → 0 < n → first_or d (take n xs) ≡ first_or d xs
first-any d zero xs h = absurd (omega arith)
first-any d (suc n) [] h = refl
first-any d (suc n) (x ∷ xs) h = refl

-- the number on the left of a block
left-is : (size : ℕ) (xs : List ℤ) (b : ℕ) → 1 ≤ size → b * size < length xs
    → last_or (pos 0) (take (b * size) xs) ≡ last_or (pos 0) (block_before size b xs)
left-is size xs zero some h =
    let none : zero * size ≡ 0 = omega arith in
    ap (λ k. last_or (pos 0) (take k xs)) none
left-is size xs (suc b) some h =
    let at : suc b * size ≡ b * size + size = omega arith in
    let back : suc b - 1 ≡ b = omega arith in
    let yes : nat_lt 0 (suc b) ≡ true = grind (arith, nat_tests) in
    let cells : 0 < length (block_of size b xs) = omega (arith, block-long size b xs, at, some, h) in
    ap (λ k. last_or (pos 0) (take k xs)) at
    ∙ ap (last_or (pos 0)) (take-add (b * size) size xs)
    ∙ last-joined (pos 0) (take (b * size) xs) (block_of size b xs)
    ∙ last-any (last_or (pos 0) (take (b * size) xs)) (pos 0) (block_of size b xs) cells
    ∙ ap (λ m. last_or (pos 0) (block_of size m xs)) (sym back)
    ∙ ap (λ t. last_or (pos 0) (if t then block_of size (suc b - 1) xs else [])) (sym yes)

-- the number on its right
right-is : (size : ℕ) (xs : List ℤ) (b : ℕ) → 1 ≤ size
    → first_or (pos 0) (drop size (drop (b * size) xs)) ≡ first_or (pos 0) (block_behind size b xs)
right-is size xs b some =
    let at : b * size + size ≡ (b + 1) * size = omega arith in
    let behind : drop size (drop (b * size) xs) ≡ drop ((b + 1) * size) xs = drop-drop size (b * size) xs ∙ ap (λ k. drop k xs) at in
    ap (first_or (pos 0)) behind ∙ sym (first-any (pos 0) size (drop ((b + 1) * size) xs) (omega (arith, some)))

pub heated-by-blocks : IsByBlocks (λ count size. true) heated block_heated
heated-by-blocks xs size b some taken h =
    ap (take size) (drop-swept (b * size) (pos 0) xs (pos 0))
    ∙ take-swept size (last_or (pos 0) (take (b * size) xs)) (drop (b * size) xs) (pos 0)
    ∙ ap (λ z. sweep z (block_of size b xs) (first_or (pos 0) (drop size (drop (b * size) xs)))) (left-is size xs b some h)
    ∙ ap (sweep (last_or (pos 0) (block_before size b xs)) (block_of size b xs)) (right-is size xs b some)

-- a third of a number of 64 bits
third-small : (z : ℤ) → fits z ≡ true → unsigned_abs (third z) ≤ 3074457345618258602
third-small (pos n) h =
    let few : n < 2 ^ 63 = grind (arith, nat_tests) in
    omega (arith, few)
third-small (negsuc n) h =
    let few : n < 2 ^ 63 = grind (arith, nat_tests) in
    omega (arith, few, abs-neg (suc n / 3))

mixed-fits : (a b c : ℤ) → fits a ≡ true → fits b ≡ true → fits c ≡ true → fits (mixed a b c) ≡ true
mixed-fits a b c p q r =
    let two = plus-small (third a) (third b) in
    let three = plus-small (third a +ℤ third b) (third c) in
    fits-from (mixed a b c) (omega (arith, two, three, third-small a p, third-small b q, third-small c r))

first-fits : (d : ℤ) (xs : List ℤ) → fits d ≡ true → all_fit xs ≡ true → fits (first_or d xs) ≡ true
first-fits d [] p q = p
first-fits d (x ∷ xs) p q = (and_parts (fits x) (all_fit xs) q).0

last-fits : (d : ℤ) (xs : List ℤ) → fits d ≡ true → all_fit xs ≡ true → fits (last_or d xs) ≡ true
last-fits d [] p q = p
last-fits d (x ∷ xs) p q = let both = and_parts (fits x) (all_fit xs) q in last-fits x xs both.0 both.1

swept-fit : (left : ℤ) (xs : List ℤ) (right : ℤ) → fits left ≡ true → all_fit xs ≡ true → fits right ≡ true
    → all_fit (sweep left xs right) ≡ true
swept-fit left [] right p q r = refl
swept-fit left (x ∷ xs) right p q r =
    let both = and_parts (fits x) (all_fit xs) q in
    and_from (fits (mixed left x (first_or right xs))) (all_fit (sweep x xs right))
    (mixed-fits left x (first_or right xs) p both.0 (first-fits right xs r both.1)) (swept-fit x xs right both.0 both.1 r)

pub heated-fit : KeepsFit block_heated
heated-fit before own behind p q r =
    swept-fit (last_or (pos 0) before) own (first_or (pos 0) behind) (last-fits (pos 0) before refl p) q (first-fits (pos 0) behind refl r)
