-- A step of a grid is one of its blocks of rows, and every cell fits 64 bits.
use Rattle.pool_blocks.specs.{Fits.{append-fits, at-fits, drop-fits, list-fits, one-fits, take-fits}, Grids.{are_whole_rows, block_relaxed}}
use Rattle.pool_blocks.specs.{Grids.{cell_after, inner, last_row, mixed, relaxed, swept_between}, ListLaws.{block-at, block-long}}
use Rattle.pool_blocks.specs.{ListLaws.{block-past, list-at, list-length, lt-tells}, Lists.{at, block_before, block_behind, list_of}}
use Rattle.pool_blocks.specs.{Stencils.{IsByBlocks, KeepsFit, KeepsLength}, Sums.fits-signed, Windows.{IsAbove, IsBelow, swept-at}}
use Rattle.std.proofs.Common.{◌≡◌, ◌<◌, ◌≤◌, ◌+◌, ◌-◌, ◌*◌, ◌/◌, ◌%◌, ◌^◌, ℕ, zero, suc, ℤ, pos, negsuc, ◌+ℤ◌, ◌*ℤ◌, ◌<ℤ◌, ◌≤ℤ◌, Bool, List}
use Rattle.std.proofs.Common.{[], ◌∷◌, ◌++◌, length, take, drop, min, true, false, if◌then◌else◌, nat_lt, length-take, length-drop, refl}
use Rattle.std.proofs.{Common.{ap, sym, subst, ◌∙◌, ⊎_elim, inl, inr, arith, FitsSigned, w64}, Math.Seq.{drop-nil, take-nil}}
use Rattle.std.proofs.lemmas.{Bool.{and_parts, cases_lt, eqb-true}, Int.ints, List.{same_lists, get_or-take, get_or-drop}, Nat.mul-le}
use Rattle.std.{proofs.lemmas.Nat.div-add-mod', specs.{Int.int_div_euclid, Prelude.◌==◌}}
use Rattle.tp_graph.{proofs.Fits.fits-word, specs.{Blocks.block_of, Values.{all_fit, fits}}}

pub relaxed-long : (width : ℕ) → KeepsLength (relaxed width)
relaxed-long width cells = list-length (length cells) (cell_after width cells)

-- if there is more than some whole rows, there is one more whole row
one-row : (q n w : ℕ) → q * w < n * w → q * w + w ≤ n * w
one-row q n w h =
    ⊎_elim
    (λ (t : q < n). omega (arith, mul-le (q + 1) w n w (omega (arith, t)) (omega arith)))
    (λ (t : n ≤ q). absurd (omega (arith, h, mul-le n w q w t (omega arith))))
    (cases_lt q n)

module _ (width rows : ℕ) (xs : List ℤ) (some_width : 1 ≤ width) (some_rows : 1 ≤ rows) (whole_rows : length xs % width ≡ 0) where
  row-small : width ≤ rows * width
  row-small = omega (arith, mul-le 1 width rows width some_rows (omega arith))

  -- a block that does not end the grid is full
  full : (b : ℕ) → (b + 1) * (rows * width) ≤ length xs → length (block_of (rows * width) b xs) ≡ rows * width
  full b h = omega (arith, block-long (rows * width) b xs, h)

  last-row-is : (b c : ℕ) → b * (rows * width) < length xs → b ≡ c + 1
      → IsAbove width (b * rows * width) xs (last_row width (block_of (rows * width) c xs))
  last-row-is b c h p =
      let blk : List ℤ = block_of (rows * width) c xs in
      let next : b * (rows * width) ≡ (c + 1) * (rows * width) = ap (λ n. n * (rows * width)) p in
      let whole : length blk ≡ rows * width = full c (omega (arith, h, next)) in
      let start : b * rows * width ≡ c * (rows * width) + rows * width = ap (λ n. n * rows * width) p ∙ omega arith in
      let row : length (drop (length blk - width) blk) ≡ width = length-drop (length blk - width) blk ∙ omega (arith, whole, row-small) in
      record {
        long = omega (arith, row, start, row-small);
        places = λ k q.
            let inside : length blk - width + k < length blk = omega (arith, whole, row-small, row, q) in
            let place : c * (rows * width) + (length blk - width + k) ≡ b * rows * width - length (drop (length blk - width) blk) + k =
            omega (arith, row, start, whole, row-small) in
            get_or-drop (length blk - width) blk k (pos 0) ∙ block-at (rows * width) c xs (length blk - width + k) inside
            ∙ ap (at xs) place;
        row = inl row;
      }

  above-part : (b : ℕ) → b * (rows * width) < length xs
      → IsAbove width (b * rows * width) xs (last_row width (block_before (rows * width) b xs))
  above-part b h =
      ⊎_elim
      (λ (t : (nat_lt 0 b ≡ true) × (0 < b)).
      let same : last_row width (block_of (rows * width) (b - 1) xs) ≡ last_row width (block_before (rows * width) b xs) =
      sym (ap (λ c. last_row width (if c then block_of (rows * width) (b - 1) xs else [])) t.0) in
      subst (IsAbove width (b * rows * width) xs) same (last-row-is b (b - 1) h (omega (arith, t.1))))
      (λ (t : (nat_lt 0 b ≡ false) × (b ≤ 0)).
      let same : [] ≡ last_row width (block_before (rows * width) b xs) =
      sym (ap (λ c. last_row width (if c then block_of (rows * width) (b - 1) xs else [])) t.0 ∙ drop-nil (0 - width)) in
      let first : b ≡ 0 = omega (arith, t.1) in
      let none : b * rows * width ≡ 0 = ap (λ n. n * rows * width) first ∙ omega arith in
      subst (IsAbove width (b * rows * width) xs) same
      (record { long = omega arith; places = λ k q. absurd (omega (arith, q)); row = inr (refl, none) }))
      (lt-tells 0 b)

  below-part : (b : ℕ) → b * (rows * width) < length xs →
      IsBelow width (b * rows * width + length (block_of (rows * width) b xs)) xs (take width (block_behind (rows * width) b xs))
  below-part b h =
      ⊎_elim
      (λ (t : (b + 1) * (rows * width) < length xs).
      let blk : List ℤ = block_of (rows * width) (b + 1) xs in
      let rows-of : length xs ≡ length xs / width * width = omega (arith, div-add-mod' (length xs) width, whole_rows) in
      let more : (b + 1) * rows * width + width ≤ length xs / width * width =
      one-row ((b + 1) * rows) (length xs / width) width (omega (arith, t, rows-of)) in
      let own : length (block_of (rows * width) b xs) ≡ rows * width = full b (omega (arith, t)) in
      let row : length (take width blk) ≡ width =
      length-take width blk ∙ omega (arith, block-long (rows * width) (b + 1) xs, more, rows-of, row-small) in
      record {
        places = λ k q.
            let place : (b + 1) * (rows * width) + k ≡ b * rows * width + length (block_of (rows * width) b xs) + k = omega (arith, own) in
            get_or-take width blk k (pos 0) (omega (arith, q, row))
            ∙ block-at (rows * width) (b + 1) xs k (omega (arith, q, length-take width blk)) ∙ ap (at xs) place;
        row = inl (row, omega (arith, own, more, rows-of));
      })
      (λ (t : length xs ≤ (b + 1) * (rows * width)).
      let same : [] ≡ take width (block_behind (rows * width) b xs) =
      sym (ap (take width) (block-past (rows * width) (b + 1) xs t) ∙ take-nil width) in
      let end : b * rows * width + length (block_of (rows * width) b xs) ≡ length xs =
      omega (arith, block-long (rows * width) b xs, t, h) in
      subst (IsBelow width (b * rows * width + length (block_of (rows * width) b xs)) xs) same
      (record { places = λ k q. absurd (omega (arith, q)); row = inr (refl, end) }))
      (cases_lt ((b + 1) * (rows * width)) (length xs))

  -- a block of the grid after a step is computed from the block and the rows above and below it
  block-swept : (b : ℕ) (above below : List ℤ) → b * (rows * width) < length xs → IsAbove width (b * rows * width) xs above →
      IsBelow width (b * rows * width + length (block_of (rows * width) b xs)) xs below
      → block_of (rows * width) b (relaxed width xs) ≡ swept_between width above (block_of (rows * width) b xs) below
  block-swept b above below h up down =
      let size : ℕ = rows * width in
      let own : List ℤ = block_of size b xs in
      let place : b * rows * width ≡ b * size = omega arith in
      let f : ℕ → ℤ = cell_after width xs in
      let g : ℕ → ℤ = λ m. cell_after width ((above ++ own) ++ below) (length above + m) in
      let here : (k : ℕ) → k < length own → at own k ≡ at xs (b * rows * width + k) =
      λ k q. block-at size b xs k q ∙ ap (λ n. at xs (n + k)) (sym place) in
      let new : length (relaxed width xs) ≡ length xs = relaxed-long width xs in
      let long : length (block_of size b (relaxed width xs)) ≡ length own =
      block-long size b (relaxed width xs) ∙ ap (λ n. min size (n - b * size)) new ∙ sym (block-long size b xs) in
      same_lists (block_of size b (relaxed width xs)) (list_of (length own) g) (long ∙ sym (list-length (length own) g))
      (λ k d q.
      let inside : k < length own = omega (arith, long, q) in
      let bound : b * size + k < length xs = omega (arith, inside, block-long size b xs, h) in
      let spot : b * size + k ≡ b * rows * width + k = omega arith in
      get_or-take size (drop (b * size) (relaxed width xs)) k d (omega (arith, inside, block-long size b xs))
      ∙ get_or-drop (b * size) (relaxed width xs) k d ∙ list-at (length xs) f (b * size + k) d bound
      ∙ ap f spot ∙ swept-at width (b * rows) xs above own below some_width up down here k inside ∙ sym (list-at (length own) g k d inside))

pub relaxed-by-blocks : (width : ℕ) → 1 ≤ width → IsByBlocks (are_whole_rows width) (relaxed width) (block_relaxed width)
relaxed-by-blocks width some xs size b some_size taken h =
    let both = and_parts (length xs % width == 0) (size % width == 0) taken in
    let cells : length xs % width ≡ 0 = eqb-true (length xs % width) 0 both.0 in
    let full : size % width ≡ 0 = eqb-true (size % width) 0 both.1 in
    let rows : ℕ = size / width in
    let is : rows * width ≡ size = omega (arith, div-add-mod' size width, full) in
    let some_rows : 1 ≤ rows =
    ⊎_elim
    (λ (t : 0 < rows). omega (arith, t))
    (λ (t : rows ≤ 0). let nothing : rows ≡ 0 = omega (arith, t) in
    let none : rows * width ≡ 0 * width = ap (λ n. n * width) nothing in absurd (omega (arith, none, is, some_size)))
    (cases_lt 0 rows) in
    let begins : b * (rows * width) < length xs = subst (λ n. b * n < length xs) (sym is) h in
    subst (λ n. block_of n b (relaxed width xs) ≡ block_relaxed width (block_before n b xs) (block_of n b xs) (block_behind n b xs)) is
    (block-swept width rows xs some some_rows cells b (last_row width (block_before (rows * width) b xs))
    (take width (block_behind (rows * width) b xs)) begins
    (above-part width rows xs some some_rows cells b begins) (below-part width rows xs some some_rows cells b begins))

-- an eighth of eight numbers of 64 bits fits 64 bits
eighth-fits : (z : ℤ) → pos 0 ≤ℤ (z +ℤ pos (8 * 2 ^ 63)) → z <ℤ (pos (8 * 2 ^ 63)) → FitsSigned w64 (int_div_euclid z (pos 8))
eighth-fits (pos n) h p = record { sfits = omega (arith, ints, h, p) }
eighth-fits (negsuc n) h p = record { sfits = omega (arith, ints, h, p) }

pub mixed-fits : (up left own right down : ℤ) → FitsSigned w64 up → FitsSigned w64 left → FitsSigned w64 own → FitsSigned w64 right
    → FitsSigned w64 down → FitsSigned w64 (mixed up left own right down)
mixed-fits up left own right down a b c d e =
    eighth-fits (((up +ℤ left) +ℤ (pos 4 *ℤ own)) +ℤ (right +ℤ down)) (omega (arith, ints, a, b, c, d, e))
    (omega (arith, ints, a, b, c, d, e))

cell-fits : (width : ℕ) (xs : List ℤ) (i : ℕ) → all_fit xs ≡ true → fits (cell_after width xs i) ≡ true
cell-fits width xs i h =
    let word : (k : ℕ) → FitsSigned w64 (at xs k) = λ k. fits-signed (at xs k) (at-fits xs k h) in
    let made : ℤ = mixed (at xs (i - width)) (at xs (i - 1)) (at xs i) (at xs (i + 1)) (at xs (i + width)) in
    one-fits (inner width (length xs) i) made (at xs i)
    (fits-word made
    (mixed-fits (at xs (i - width)) (at xs (i - 1)) (at xs i) (at xs (i + 1)) (at xs (i + width)) (word (i - width)) (word (i - 1))
    (word i) (word (i + 1)) (word (i + width))))
    (at-fits xs i h)

pub relaxed-fit : (width : ℕ) → KeepsFit (block_relaxed width)
relaxed-fit width above own below p q r =
    let window : List ℤ = (last_row width above ++ own) ++ take width below in
    let fit : all_fit window ≡ true =
    append-fits (last_row width above
    ++ own) (take width below) (append-fits (last_row width above) own (drop-fits (length above - width) above p) q)
    (take-fits width below r) in
    list-fits (length own) (λ e. cell_after width window (length (last_row width above) + e)) (λ e.
    cell-fits width window (length (last_row width above) + e) fit)
