-- Tasks in rows of a table: task t is in row t / w and column t % w, if a row has w tasks.
use Rattle.std.proofs.Common.{◌≡◌, ◌<◌, ◌≤◌, ◌+◌, ◌-◌, ◌*◌, ◌/◌, ◌%◌, ℕ, zero, suc, ap, sym, ◌∙◌, arith}
use Rattle.std.proofs.lemmas.Nat.{div-add-mod', mod-mul-add, div-mul-add, mul-add-lt, div_below}

-- the column of the next place of a row
pub mod_right : (w t : ℕ) → t % w + 1 < w → (t + 1) % w ≡ t % w + 1
mod_right w t h =
    let e : t + 1 ≡ (t / w) * w + (t % w + 1) = omega (arith, div-add-mod' t w) in
    ap (λ m. m % w) e ∙ mod-mul-add (t / w) w (t % w + 1) h

-- the column of the place before it
pub mod_left : (w t : ℕ) → 0 < w → 0 < t % w → (t - 1) % w ≡ t % w - 1
mod_left w t p h =
    let e : t - 1 ≡ (t / w) * w + (t % w - 1) = omega (arith, div-add-mod' t w) in
    let lt : t % w - 1 < w = omega arith in
    ap (λ m. m % w) e ∙ mod-mul-add (t / w) w (t % w - 1) lt

-- a row further
pub mod_down : (w t : ℕ) → 0 < w → (t + w) % w ≡ t % w
mod_down w t p =
    let e : t + w ≡ (t / w + 1) * w + t % w = omega (arith, div-add-mod' t w) in
    let lt : t % w < w = omega arith in
    ap (λ m. m % w) e ∙ mod-mul-add (t / w + 1) w (t % w) lt

-- a row back
pub mod_up : (w t : ℕ) → 0 < w → w ≤ t → (t - w) % w ≡ t % w
mod_up w t p h =
    let e : t - w + w ≡ t = omega arith in
    sym (mod_down w (t - w) p) ∙ ap (λ m. m % w) e

-- the next place of a row is within the table of this many rows
pub right_within : (rows w t : ℕ) → 0 < w → t < rows * w → t % w + 1 < w → t + 1 < rows * w
right_within rows w t p h q =
    let row : t / w < rows = div_below t w rows p h in
    let e : t + 1 ≡ (t / w) * w + (t % w + 1) = omega (arith, div-add-mod' t w) in
    omega (arith, e, mul-add-lt (t / w) w (t % w + 1) rows row q)

-- the column of any place of the next row
pub column-down : (w t u c : ℕ) → c < w → u + t % w ≡ t + w + c → u % w ≡ c
column-down w t u c h e =
    let f : u ≡ (t / w + 1) * w + c = omega (arith, div-add-mod' t w) in
    ap (λ m. m % w) f ∙ mod-mul-add (t / w + 1) w c h

column-up-from : (w i d u c : ℕ) → c < w → d < w → w ≤ i * w + d → u + w ≡ i * w + c → u % w ≡ c
column-up-from w zero d u c h p q e = absurd (omega arith)
column-up-from w (suc i) d u c h p q e =
    let f : u ≡ i * w + c = omega arith in
    ap (λ m. m % w) f ∙ mod-mul-add i w c h

-- the column of any place of the row before
pub column-up : (w t u c : ℕ) → c < w → w ≤ t → u + w + t % w ≡ t + c → u % w ≡ c
column-up w t u c h q e =
    let d : t / w * w + t % w ≡ t = div-add-mod' t w in
    let below : t % w < w = omega arith in
    column-up-from w (t / w) (t % w) u c h below (omega arith) (omega arith)

-- a place of the next row is one of the table if the one right below is
pub row-within : (rows w t u c : ℕ) → c < w → t + w < rows * w → u + t % w ≡ t + w + c → u < rows * w
row-within rows w t u c h p e =
    let some : 0 < w = omega arith in
    let column : t % w < w = omega arith in
    let g : t + w ≡ (t / w + 1) * w + t % w = omega (arith, div-add-mod' t w) in
    let next : (t + w) / w ≡ t / w + 1 = ap (λ m. m / w) g ∙ div-mul-add (t / w + 1) w (t % w) column in
    let row : (t + w) / w < rows = div_below (t + w) w rows some p in
    let lower : t / w + 1 < rows = omega arith in
    let f : u ≡ (t / w + 1) * w + c = omega (arith, div-add-mod' t w) in
    omega (arith, mul-add-lt (t / w + 1) w c rows lower h)

-- a place of the same row is one of the table
pub row-same : (rows w t u c : ℕ) → c < w → t < rows * w → u + t % w ≡ t + c → u < rows * w
row-same rows w t u c h p e =
    let row : t / w < rows = div_below t w rows (omega arith) p in
    let f : u ≡ t / w * w + c = omega (arith, div-add-mod' t w) in
    omega (arith, mul-add-lt (t / w) w c rows row h)
