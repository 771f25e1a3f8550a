-- Lists by index, and lists in blocks.
use Rattle.pool_blocks.specs.Lists.{at, list_of}
use Rattle.std.proofs.Common.{◌≡◌, ◌<◌, ◌≤◌, ◌+◌, ◌-◌, ◌*◌, ℕ, zero, suc, ℤ, pos, List, [], ◌∷◌, ◌++◌, length, get_or, take, drop, min}
use Rattle.std.proofs.Common.{true, false, nat_lt, length-take, length-drop, refl, ap, sym, ◌∙◌, ◌⊎◌, ⊎_elim, inl, inr, arith}
use Rattle.std.proofs.{Math.Seq.take-nil, lemmas.{Bool.Decides.leb_tells, List.{drop_all, get_or-take, get_or-drop}}}
use Rattle.tp_graph.specs.Blocks.{block_of}

pub list-length : (count : ℕ) (f : ℕ → ℤ) → length (list_of count f) ≡ count
list-length zero f = refl
list-length (suc count) f = ap suc (list-length count (λ e. f (suc e)))

pub list-at : (count : ℕ) (f : ℕ → ℤ) (k : ℕ) (d : ℤ) → k < count → get_or (list_of count f) k d ≡ f k
list-at zero f k d h = absurd (omega arith)
list-at (suc count) f zero d h = refl
list-at (suc count) f (suc k) d h = list-at count (λ e. f (suc e)) k d (omega arith)

-- one more element
pub list-more : (count : ℕ) (f : ℕ → ℤ) → list_of (count + 1) f ≡ list_of count f ++ f count ∷ []
list-more zero f = refl
list-more (suc count) f =
    let e : suc count + 1 ≡ suc (count + 1) = omega arith in
    ap (λ n. list_of n f) e ∙ ap (λ l. f 0 ∷ l) (list-more count (λ e. f (suc e)))

-- what follows from a test of two numbers
pub lt-tells : (a b : ℕ) → ((nat_lt a b ≡ true) × (a < b)) ⊎ ((nat_lt a b ≡ false) × (b ≤ a))
lt-tells a b =
    ⊎_elim (λ (t : (nat_lt a b ≡ true) × (suc a ≤ b)). inl (t.0, t.1))
    (λ (t : (nat_lt a b ≡ false) × (b < suc a)). inr (t.0, omega (arith, t.1))) (leb_tells (suc a) b)

pub lt-same : (a b c d : ℕ) → (a < b → c < d) → (c < d → a < b) → nat_lt a b ≡ nat_lt c d
lt-same a b c d to from =
    ⊎_elim
    (λ (t : (nat_lt a b ≡ true) × (a < b)).
    ⊎_elim (λ (u : (nat_lt c d ≡ true) × (c < d)). t.0
    ∙ sym u.0) (λ (u : (nat_lt c d ≡ false) × (d ≤ c)). absurd (omega (arith, to t.1, u.1))) (lt-tells c d))
    (λ (t : (nat_lt a b ≡ false) × (b ≤ a)).
    ⊎_elim (λ (u : (nat_lt c d ≡ true) × (c < d)). absurd (omega (arith, from u.1, t.1))) (λ (u : (nat_lt c d ≡ false) × (d ≤ c)). t.0
    ∙ sym u.0) (lt-tells c d))
    (lt-tells a b)

-- the length of a block, its numbers, and that it is empty after the end of the list
pub block-long : (size b : ℕ) (xs : List ℤ) → length (block_of size b xs) ≡ min size (length xs - b * size)
block-long size b xs = length-take size (drop (b * size) xs) ∙ ap (min size) (length-drop (b * size) xs)

pub block-at : (size b : ℕ) (xs : List ℤ) (k : ℕ) → k < length (block_of size b xs) → at (block_of size b xs) k ≡ at xs (b * size + k)
block-at size b xs k h =
    get_or-take size (drop (b * size) xs) k (pos 0) (omega (arith, h, block-long size b xs)) ∙ get_or-drop (b * size) xs k (pos 0)

pub block-past : (size b : ℕ) (xs : List ℤ) → length xs ≤ b * size → block_of size b xs ≡ []
block-past size b xs h = ap (take size) (drop_all (b * size) xs h) ∙ take-nil size
