-- A block with the rows above and below it is a window of the grid.
use Rattle.pool_blocks.specs.{Grids.{mixed, inner, cell_after}, ListLaws.lt-same, Lists.at}
use Rattle.std.proofs.Common.{◌≡◌, ◌<◌, ◌≤◌, ◌+◌, ◌-◌, ◌*◌, ◌%◌, ◌&&◌, ℕ, ℤ, pos, Bool, List, [], ◌∷◌, ◌++◌, length, get_or, true, false}
use Rattle.std.proofs.{Common.{if◌then◌else◌, nat_lt, refl, ap, sym, ◌∙◌, ◌⊎◌, ⊎_elim, inl, inr, arith}, Math.Nat.mul-add-mod_self_right}
use Rattle.std.proofs.lemmas.{Bool.{cases_lt, cases_Bool, Decides.nat_tests}, List.{get_or_append_left, get_or-append_right, length-append}}

-- the bounds of an inner position
inner-within : (w count i : ℕ) → inner w count i ≡ true → (w ≤ i) × (i + w < count)
inner-within w count i h = (grind (arith, nat_tests), grind (arith, nat_tests))

mixed-same : (a b c d e f g h i j : ℤ) → a ≡ f → b ≡ g → c ≡ h → d ≡ i → e ≡ j → mixed a b c d e ≡ mixed f g h i j
mixed-same a b c d e f g h i j p q r s t =
    ap (λ z. mixed z b c d e) p ∙ ap (λ z. mixed f z c d e) q ∙ ap (λ z. mixed f g z d e) r ∙ ap (λ z. mixed f g h z e) s
    ∙ ap (λ z. mixed f g h i z) t

pick-true : (b : Bool) (x y : ℤ) → b ≡ true → (if b then x else y) ≡ x
pick-true true x y h = refl
pick-true false x y h = absurd (cc)

pick-false : (b : Bool) (x y : ℤ) → b ≡ false → (if b then x else y) ≡ y
pick-false true x y h = absurd (cc)
pick-false false x y h = refl

-- the same cells, this many positions further, with the same edges
shifted : (w : ℕ) (xs window : List ℤ) (from i j : ℕ) → 0 < w → j ≡ from + i → i < length window
    → ((k : ℕ) → k < length window → at window k ≡ at xs (from + k)) →
    inner w (length window) i ≡ inner w (length xs) j → cell_after w xs j ≡ cell_after w window i
shifted w xs window from i j some place within same edge =
    let here : at xs j ≡ at window i = ap (at xs) place ∙ sym (same i within) in
    ⊎_elim
    (λ (t : inner w (length window) i ≡ true).
    let u : inner w (length xs) j ≡ true = sym edge ∙ t in
    let around = inner-within w (length window) i t in
    let next : (k m : ℕ) → m ≡ from + k → k < length window → at xs m ≡ at window k = λ k m e h. ap (at xs) e ∙ sym (same k h) in
    pick-true (inner w (length xs) j) _ _ u
    ∙ mixed-same _ _ _ _ _ _ _ _ _ _
    (next (i - w) (j - w) (omega (arith, around.0, place)) (omega (arith, within)))
    (next (i - 1) (j - 1) (omega (arith, around.0, place, some)) (omega (arith, within)))
    here
    (next (i + 1) (j + 1) (omega (arith, place)) (omega (arith, around.1, some)))
    (next (i + w) (j + w) (omega (arith, place)) around.1)
    ∙ sym (pick-true (inner w (length window) i) _ _ t))
    (λ (t : inner w (length window) i ≡ false).
    let u : inner w (length xs) j ≡ false = sym edge ∙ t in
    pick-false (inner w (length xs) j) _ _ u ∙ here ∙ sym (pick-false (inner w (length window) i) _ _ t))
    (cases_Bool (inner w (length window) i))

-- the cells above a block that begins at a position: a row, or nothing if the block is the first
pub record IsAbove (w start : ℕ) (xs above : List ℤ) : Type 0 where
  pub long : length above ≤ start
  pub places : (k : ℕ) → k < length above → at above k ≡ at xs (start - length above + k)
  pub row : (length above ≡ w) ⊎ ((length above ≡ 0) × (start ≡ 0))

-- the cells below a block that ends at a position: a row, or nothing if the block is the last
pub record IsBelow (w end : ℕ) (xs below : List ℤ) : Type 0 where
  pub places : (k : ℕ) → k < length below → at below k ≡ at xs (end + k)
  pub row : ((length below ≡ w) × (end + w ≤ length xs)) ⊎ ((length below ≡ 0) × (end ≡ length xs))

module _ (w q : ℕ) (xs above own below : List ℤ) (some : 0 < w) (up : IsAbove w (q * w) xs above)
    (down : IsBelow w (q * w + length own) xs below)
    (here : (k : ℕ) → k < length own → at own k ≡ at xs (q * w + k)) where
  long : length ((above ++ own) ++ below) ≡ length above + length own + length below
  long = length-append (above ++ own) below ∙ ap (λ n. n + length below) (length-append above own)

  window-at : (k : ℕ) → k < length ((above ++ own) ++ below) → at ((above ++ own) ++ below) k ≡ at xs (q * w - length above + k)
  window-at k h =
      let both : length (above ++ own) ≡ length above + length own = length-append above own in
      ⊎_elim
      (λ (t : k < length above).
      get_or_append_left (above ++ own) below (pos 0) k (omega (arith, both, t)) ∙ get_or_append_left above own (pos 0) k t ∙ up.places k t)
      (λ (t : length above ≤ k).
      ⊎_elim
      (λ (u : k < length above + length own).
      let e : q * w + (k - length above) ≡ q * w - length above + k = omega (arith, up.long, t) in
      get_or_append_left (above ++ own) below (pos 0) k (omega (arith, both, u))
      ∙ get_or-append_right above own (length above) k (pos 0) refl t
      ∙ here (k - length above) (omega (arith, t, u)) ∙ ap (at xs) e)
      (λ (u : length above + length own ≤ k).
      let e : q * w + length own + (k - (length above + length own)) ≡ q * w - length above + k = omega (arith, up.long, u) in
      get_or-append_right (above ++ own) below (length above + length own) k (pos 0) both u
      ∙ down.places (k - (length above + length own)) (omega (arith, u, h, long)) ∙ ap (at xs) e)
      (cases_lt k (length above + length own)))
      (cases_lt k (length above))

  column : (e : ℕ) → (length above + e) % w ≡ (q * w + e) % w
  column e =
      ⊎_elim
      (λ (t : length above ≡ w).
      let one : length above + e ≡ 1 * w + e = omega (arith, t) in
      ap (λ n. n % w) one ∙ mul-add-mod_self_right 1 w e ∙ sym (mul-add-mod_self_right q w e))
      (λ (t : (length above ≡ 0) × (q * w ≡ 0)).
      let same : length above + e ≡ q * w + e = omega (arith, t.0, t.1) in
      ap (λ n. n % w) same)
      up.row

  first-edge : (e : ℕ) → nat_lt w (length above + e + 1) ≡ nat_lt w (q * w + e + 1)
  first-edge e =
      ⊎_elim
      (λ (t : length above
      ≡ w). lt-same w (length above + e + 1) w (q * w + e + 1) (λ h. omega (arith, t, up.long)) (λ h. omega (arith, t)))
      (λ (t : (length above ≡ 0) × (q * w ≡ 0)). let same : length above + e + 1 ≡ q * w + e + 1 = omega (arith, t.0, t.1) in
      ap (nat_lt w) same)
      up.row

  last-edge : (e : ℕ) → e < length own
      → nat_lt (length above + e + w) (length ((above ++ own) ++ below)) ≡ nat_lt (q * w + e + w) (length xs)
  last-edge e h =
      ⊎_elim
      (λ (t : (length below ≡ w) × (q * w + length own + w ≤ length xs)).
      lt-same (length above + e + w) (length ((above ++ own) ++ below)) (q * w + e + w) (length xs) (λ p. omega (arith, t.1, h)) (λ p.
      omega (arith, long, t.0, h)))
      (λ (t : (length below ≡ 0) × (q * w + length own ≡ length xs)).
      lt-same (length above + e + w) (length ((above ++ own) ++ below)) (q * w + e + w) (length xs) (λ p.
      omega (arith, long, t.0, t.1, p)) (λ p. omega (arith, long, t.0, t.1, p)))
      down.row

  same-edge : (e : ℕ) → e < length own → inner w (length ((above ++ own) ++ below)) (length above + e) ≡ inner w (length xs) (q * w + e)
  same-edge e h =
      ap (λ b. b && (nat_lt (length above + e + w) (length ((above ++ own) ++ below))
      && (nat_lt 0 ((length above + e) % w) && nat_lt ((length above + e) % w + 1) w))) (first-edge e)
      ∙ ap (λ b. nat_lt w (q * w + e + 1)
      && (b && (nat_lt 0 ((length above + e) % w) && nat_lt ((length above + e) % w + 1) w))) (last-edge e h)
      ∙ ap (λ m. nat_lt w (q * w + e + 1) && (nat_lt (q * w + e + w) (length xs) && (nat_lt 0 m && nat_lt (m + 1) w))) (column e)

  -- a cell of the block after a step
  pub swept-at : (e : ℕ) → e < length own → cell_after w xs (q * w + e) ≡ cell_after w ((above ++ own) ++ below) (length above + e)
  swept-at e h =
      shifted w xs ((above ++ own)
      ++ below) (q * w - length above) (length above + e) (q * w + e) some (omega (arith, up.long)) (omega (arith, long, h)) window-at
      (same-edge e h)
