-- A tile whose rows are computed one after another.
pub mod RowSums
pub use RowSums.*

-- a running sum of some numbers fits
running_fits : (first : ℤ) (start count : ℕ) (f : ℕ → ℤ) (sum : ℤ) → 1 ≤ count → running first start count f ≡ Some sum → fits sum ≡ true
running_fits first start zero f sum some e = absurd (omega arith)
running_fits first start (suc count) f sum some e =
    let before = then_some-is (running first start count f) (λ s. more s (f (start + count))) sum e in
    (more_is before.0 (f (start + count)) sum before.2).0

all_fit_from : (xs : List ℤ) → ((e : ℕ) → e < length xs → fits (get_or xs e (pos 0)) ≡ true) → all_fit xs ≡ true
all_fit_from [] each = refl
all_fit_from (x ∷ xs) each = and_from (fits x) (all_fit xs) (each 0 (omega arith)) (all_fit_from xs (λ e h. each (suc e) (omega arith)))

part_long : (tile : List ℤ) (a w : ℕ) → a + w ≤ length tile → length (take w (drop a tile)) ≡ w
part_long tile a w h = search (rules, places)

part_at : (tile : List ℤ) (a w n : ℕ) → n < w → get_or (take w (drop a tile)) n (pos 0) ≡ get_or tile (a + n) (pos 0)
part_at tile a w n h = get_or-take w (drop a tile) n (pos 0) h ∙ get_or-drop a tile n (pos 0)

put_long : (tile now : List ℤ) (a w : ℕ) → a + w ≤ length tile → length now ≡ w → length (put_mid a w tile now) ≡ length tile
put_long tile now a w h e = search (rules, places)

put_below : (tile now : List ℤ) (a w k : ℕ) → a + w ≤ length tile → length now ≡ w → k < a
    → get_or (put_mid a w tile now) k (pos 0) ≡ get_or tile k (pos 0)
put_below tile now a w k h e p = search (rules, places)

put_in : (tile now : List ℤ) (a w k : ℕ) → a + w ≤ length tile → length now ≡ w → a ≤ k → k < a + w
    → get_or (put_mid a w tile now) k (pos 0) ≡ get_or now (k - a) (pos 0)
put_in tile now a w k h e p q = search (rules, places)

put_above : (tile now : List ℤ) (a w k : ℕ) → a + w ≤ length tile → length now ≡ w → a + w ≤ k
    → get_or (put_mid a w tile now) k (pos 0) ≡ get_or tile k (pos 0)
put_above tile now a w k h e p = search (rules, places)

-- the last row ends at the end of the tile
pub row_inside : (row side : ℕ) → row < side → row * side + side ≤ side * side
row_inside row side h = omega (arith, mul-le (row + 1) side side side (omega arith) (omega arith))

module _ (order side : ℕ) (lefts rights : List ℤ) (i j k : ℕ) (before begun : List ℤ) (some : 1 ≤ side)
    (begun_is : gather (side * side) (λ e. Some (get_or before e (pos 0))) ≡ Some begun) where
  abbrev f : ℕ → Option ℤ
  f = tile_entry order side lefts rights i j k before

  begun_at : (e : ℕ) → e < side * side → get_or begun e (pos 0) ≡ get_or before e (pos 0)
  begun_at e h = let all =
      gathered (side * side) (λ e. Some (get_or before e (pos 0))) begun (pos 0) begun_is in some_same (sym (all.1 e h))

  pub begun_long : length begun ≡ side * side
  begun_long = (gathered (side * side) (λ e. Some (get_or before e (pos 0))) begun (pos 0) begun_is).0

  module _ (row w : ℕ) (tile : List ℤ) (inside : row < side) (w_is : w ≡ side) (kept : IsPartly (row * side) f begun tile) where
    abbrev part : List ℤ
    part = take w (drop (row * side) tile)

    long : length tile ≡ side * side
    long = kept.long ∙ begun_long

    part_is : length part ≡ side
    part_is = part_long tile (row * side) w (omega (arith, w_is, long, row_inside row side inside)) ∙ w_is

    -- number n of the row is a number of the tile
    entry_is : (n : ℕ) → n < side
        → f (row * side + n) ≡ row_entry order lefts rights (i * side + row) (j * side) (k * side) side part n
    entry_is n h =
        let at : row * side + n < side * side = mul-add-lt row side n side inside h in
        let first : get_or before (row * side + n) (pos 0) ≡ get_or part n (pos 0) =
        sym (part_at tile (row * side) w n (omega (arith, w_is)) ∙ kept.later (row * side + n) (omega arith)
        ∙ begun_at (row * side + n) at) in
        ap (λ b. running b (k * side) side
        (term order lefts rights (i * side + (row * side + n) / side) (j * side + (row * side + n) % side))) first
        ∙ ap (λ q. running (get_or part n (pos 0)) (k * side) side
        (term order lefts rights (i * side + q) (j * side + (row * side + n) % side))) (div-mul-add row side n h)
        ∙ ap (λ r. running (get_or part n (pos 0)) (k * side) side (term order lefts rights (i * side + row) (j * side + r)))
        (mod-mul-add row side n h)

    -- one row more
    pub tile_step : (now : List ℤ)
        → gather (length part) (row_entry order lefts rights (i * side + row) (j * side) (k * side) side part) ≡ Some now →
        IsPartly ((row + 1) * side) f begun (put_mid (row * side) w tile now)
    tile_step now made =
        let all = gathered (length part) (row_entry order lefts rights (i * side + row) (j * side) (k * side) side part) now
        (pos 0) made in
        let room : row * side + w ≤ length tile = omega (arith, w_is, long, row_inside row side inside) in
        let wide : length now ≡ w = omega (arith, all.0, part_is, w_is) in
        record {
          long = put_long tile now (row * side) w room wide ∙ kept.long;
          done = λ e h.
              ⊎_elim
              (λ (earlier : e < row * side). kept.done e earlier ∙ ap Some (sym (put_below tile now (row * side) w e room wide earlier)))
              (λ (later : row * side ≤ e).
              let n : ℕ = e - row * side in
              let within : n < side = omega arith in
              let at : row * side + n ≡ e = omega (arith, later) in
              ap f (sym at) ∙ entry_is n within ∙ all.1 n (omega (arith, part_is, within))
              ∙ ap Some (sym (put_in tile now (row * side) w e room wide later (omega (arith, w_is, within, at)))))
              (cases_lt e (row * side));
          later = λ e h. put_above tile now (row * side) w e room wide (omega (arith, w_is)) ∙ kept.later e (omega arith);
        }

    -- if a row fails, so does the tile
    pub tile_fails : gather (length part) (row_entry order lefts rights (i * side + row) (j * side) (k * side) side part) ≡ None
        → gather (side * side) f ≡ None
    tile_fails failed =
        let lack = gather_lacks (length part) (row_entry order lefts rights (i * side + row) (j * side) (k * side) side part)
        failed in
        let within : lack.0 < side = omega (arith, part_is, lack.1) in
        gather_fails (side * side) (row * side + lack.0) f (mul-add-lt row side lack.0 side inside within) (entry_is lack.0 within ∙ lack.2)

  -- each row is done
  pub tile_done : (row : ℕ) (tile : List ℤ) → row ≡ side → IsPartly (row * side) f begun tile → (gather (side * side) f ≡ Some tile)
      × (all_fit tile ≡ true)
  tile_done row tile all kept =
      let whole : row * side ≡ side * side = ap (λ r. r * side) all in
      let long : length tile ≡ side * side = kept.long ∙ begun_long in (
        all_partly (side * side) f begun tile (subst (λ c. IsPartly c f begun tile) whole kept) long,
        all_fit_from tile (λ e h.
            running_fits (get_or before e (pos 0)) (k * side) side (term order lefts rights (i * side + e / side) (j * side + e % side))
            (get_or tile e (pos 0)) some
            (kept.done e (omega (arith, whole, long)))),
      )
