-- The values of the tasks are the tiles of partial sums.
pub mod TileRows
pub use TileRows.*

-- a running sum that has not failed is the plain sum
running-is : (first : ℤ) (start count : ℕ) (f : ℕ → ℤ) (s : ℤ) → running first start count f ≡ Some s → first ≡ sum_to start f
    → s ≡ sum_to (start + count) f
running-is first start zero f s e b =
    let none : start + 0 ≡ start = omega arith in
    sym (some_same e) ∙ b ∙ ap (λ n. sum_to n f) (sym none)
running-is first start (suc count) f s e b =
    let many : start + suc count ≡ suc (start + count) = omega arith in
    let before = then_some-is (running first start count f) (λ sum. more sum (f (start + count))) s e in
    (more-by _ (before.0 +ℤ f (start + count)) s before.2).1
    ∙ ap (λ z. z +ℤ f (start + count)) (running-is first start count f before.0 before.1 b)
    ∙ ap (λ n. sum_to n f) (sym many)

none-there : (xs : List (List ℤ)) → length xs ≡ 0 → get_or xs 0 [] ≡ []
none-there [] e = refl
none-there (x ∷ xs) e = absurd (omega arith)

list-last : {A : Type 0} (count : ℕ) (f : ℕ → A) → list_of (count + 1) f ≡ list_of count f ++ f count ∷ []
list-last zero f = refl
list-last (suc count) f = rw add-one (ap (λ l. f 0 ∷ l) (rw add-one at (list-last count (λ e. f (suc e)))))

-- the row and the column of a place
pub row_below : (q order : ℕ) → 1 ≤ order → q < order * order → (q / order < order) × (q % order < order)
row_below q order some h = (div_below q order order (omega arith) h, omega arith)

pub tile_below : (x tiles side : ℕ) → 1 ≤ side → x < tiles * side → x / side < tiles
tile_below x tiles side some h = div_below x side tiles (omega arith) h

-- the row, the column and the part of task (i, j, k)
places_of : (tiles i j k : ℕ) → j < tiles → k < tiles → (let t : ℕ = (i * tiles + j) * tiles + k in
    (t / tiles / tiles ≡ i) × (t / tiles % tiles ≡ j) × (t % tiles ≡ k))
places_of tiles i j k q r =
    let d = div-mul-add (i * tiles + j) tiles k r in (
      ap (λ m. m / tiles) d ∙ div-mul-add i tiles j q,
      ap (λ m. m % tiles) d ∙ mod-mul-add i tiles j q,
      mod-mul-add (i * tiles + j) tiles k r,
    )

module _ (left right : List ℤ) (tiles side : ℕ) (kept : IsProduct tiles side (length left) (length right)) where
  -- what z adds to number e of tile (i, j)
  abbrev part : ℕ → ℕ → ℕ → ℕ → ℤ
  part i j e = term (tiles * side) left right (i * side + e / side) (j * side + e % side)

  -- a tile has the sums over this many z
  abbrev pub IsTile : ℕ → ℕ → ℕ → List ℤ → Type 0
  IsTile i j upto value = (e : ℕ) → e < side * side → get_or value e (pos 0) ≡ sum_to upto (part i j e)

  added : (i j k : ℕ) (before value : List ℤ) → IsTile i j (k * side) before
      → gather (side * side) (tile_entry (tiles * side) side left right i j k before) ≡ Some value → IsTile i j ((k + 1) * side) value
  added i j k before value was e n h =
      let all = gathered (side * side) (tile_entry (tiles * side) side left right i j k before) value (pos 0) e in
      let upto : k * side + side ≡ (k + 1) * side = omega arith in
      running-is (get_or before n (pos 0)) (k * side) side (part i j n) (get_or value n (pos 0)) (all.1 n h) (was n h)
      ∙ ap (λ m. sum_to m (part i j n)) upto

  -- the value of task (i, j, k), if it has one, is tile (i, j) of the sums over the z of the first k + 1 tiles
  pub tile_after : (i j k : ℕ) (value : List ℤ) → i < tiles → j < tiles → k < tiles
      → value_of (matrix_graph left right tiles side) ((i * tiles + j) * tiles + k) ≡ Some value → IsTile i j ((k + 1) * side) value
  unfolding Rattle.pool_matrix.specs.Matrices.matrix_graph
  tile_after i j zero value p q r e =
      let t : ℕ = (i * tiles + j) * tiles + 0 in
      let is = places_of tiles i j 0 q r in
      let made = inputs_of (matrix_graph left right tiles side) t value (matrix_lawful left right tiles side kept.some_tiles)
      (known tiles i j 0 p q r) e in
      let none : (matrix_graph left right tiles side).arity t ≡ 0 = ap (λ m. if nat_eq m 0 then 0 else 1) is.2 in
      let empty : get_or made.0 0 [] ≡ [] = none-there made.0 (made.1.long ∙ none) in
      let nothing : 0 * side ≡ 0 = omega arith in
      added i j 0 [] value (λ n h. ap (λ m. sum_to m (part i j n)) (sym nothing)) (rw (← empty) (rw (is.0, is.1, is.2) at (made.2)))
  tile_after i j (suc k) value p q r e =
      let t : ℕ = (i * tiles + j) * tiles + suc k in
      let is = places_of tiles i j (suc k) q r in
      let made = inputs_of (matrix_graph left right tiles side) t value (matrix_lawful left right tiles side kept.some_tiles)
      (known tiles i j (suc k) p q r) e in
      let one : (matrix_graph left right tiles side).arity t ≡ 1 = ap (λ m. if nat_eq m 0 then 0 else 1) is.2 ∙ grind (arith, nat_tests) in
      let before : t - 1 ≡ (i * tiles + j) * tiles + k = omega arith in
      let was = tile_after i j k (get_or made.0 0 []) p q (omega arith) (ap (value_of (matrix_graph left right tiles side)) (sym before)
      ∙ made.1.right 0 (omega (arith, one))) in
      let next : k + 1 ≡ suc k = omega arith in
      added i j (suc k) (get_or made.0 0 []) value (λ n h. was n h
      ∙ ap (λ m. sum_to (m * side) (part i j n)) next) (rw (is.0, is.1, is.2) at (made.2))

  -- the last task that adds to a number has it at a place
  number-is : (x y : ℕ) (value : List ℤ) → x < tiles * side → y < tiles * side
      → value_of (matrix_graph left right tiles side) ((x / side * tiles + y / side) * tiles + (tiles - 1)) ≡ Some value →
      get_or value ((x % side) * side + y % side) (pos 0) ≡ sum_to (tiles * side) (term (tiles * side) left right x y)
  number-is x y value p q e =
      let some : 0 < side = omega (arith, kept.some_side) in
      let last : tiles - 1 < tiles = omega (arith, kept.some_tiles) in
      let xs : x % side < side = omega arith in
      let ys : y % side < side = omega arith in
      let place : ℕ = (x % side) * side + y % side in
      let inside : place < side * side = mul-add-lt (x % side) side (y % side) side xs ys in
      let ex : x / side * side + place / side ≡ x =
      ap (λ n. x / side * side + n) (div-mul-add (x % side) side (y % side) ys) ∙ div-add-mod' x side in
      let ey : y / side * side + place % side ≡ y =
      ap (λ n. y / side * side + n) (mod-mul-add (x % side) side (y % side) ys) ∙ div-add-mod' y side in
      let n : tiles - 1 + 1 ≡ tiles = omega (arith, kept.some_tiles) in
      tile_after (x / side) (y / side) (tiles - 1) value (div_below x side tiles some p) (div_below y side tiles some q) last e place inside
      ∙ ap (λ m. sum_to (m * side) (part (x / side) (y / side) place)) n
      ∙ ap (λ m. sum_to (tiles * side) (term (tiles * side) left right m (y / side * side + place % side))) ex
      ∙ ap (λ m. sum_to (tiles * side) (term (tiles * side) left right x m)) ey

  -- one more number of the product
  pub number_more : (q : ℕ) (value made : List ℤ) (next : ℤ) (order : ℕ) → order ≡ tiles * side → q < order * order →
      value_of (matrix_graph left right tiles side) ((q / order / side * tiles + q % order / side) * tiles + (tiles - 1)) ≡ Some value →
      next ≡ get_or value ((q / order % side) * side + q % order % side) (pos 0)
      → made ≡ list_of q (λ m. sum_to (tiles * side) (term (tiles * side) left right (m / (tiles * side)) (m % (tiles * side)))) →
      made ++ next ∷ []
      ≡ list_of (q + 1) (λ m. sum_to (tiles * side) (term (tiles * side) left right (m / (tiles * side)) (m % (tiles * side))))
  number_more q value made next order is h e n before =
      let P : ℕ → Type 0 =
      λ o. q < o * o
      → value_of (matrix_graph left right tiles side) ((q / o / side * tiles + q % o / side) * tiles + (tiles - 1)) ≡ Some value →
      next ≡ get_or value ((q / o % side) * side + q % o % side) (pos 0)
      → next ≡ sum_to (tiles * side) (term (tiles * side) left right (q / (tiles * side)) (q % (tiles * side))) in
      let at : P (tiles * side) =
      λ inside v g. g
      ∙ number-is (q / (tiles * side)) (q % (tiles * side)) value
      (div_below q (tiles * side) (tiles * side) (omega (arith, kept.some_numbers)) inside) (omega (arith, kept.some_numbers)) v in
      ap (λ l. l ++ next ∷ []) before
      ∙ ap (λ z. list_of q (λ m. sum_to (tiles * side) (term (tiles * side) left right (m / (tiles * side)) (m % (tiles * side))))
      ++ z ∷ []) (subst P (sym is) at h e n)
      ∙ sym (list-last q (λ m. sum_to (tiles * side) (term (tiles * side) left right (m / (tiles * side)) (m % (tiles * side)))))

-- the last task that adds to a tile is kept
pub last_kept : (left right : List ℤ) (tiles side t tile : ℕ) → 1 ≤ tiles → t ≡ tile * tiles + (tiles - 1)
    → IsTrue ((matrix_graph left right tiles side).keeps t)
unfolding Rattle.pool_matrix.specs.Matrices.matrix_graph
last_kept left right tiles side t tile some e =
    let column : t % tiles ≡ tiles - 1 = ap (λ n. n % tiles) e ∙ mod-mul-add tile tiles (tiles - 1) (omega (arith, some)) in
    eq-eqb (t % tiles + 1) tiles (omega (arith, column, some))
