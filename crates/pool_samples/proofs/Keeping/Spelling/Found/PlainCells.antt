-- The cells of a table are the values of its needed tasks.
pub mod WaveCells
pub use WaveCells.*
use Rattle.pool_samples.specs.declared.any.AnyGraph.TheVariants as pool

pub leaves-few : (n s : ℕ) → IsReduce n s → (1 ≤ n) × (n ≤ 1024)
leaves-few n s h = let t = h.leaf_count in (grind (arith, nat_tests), grind (arith, nat_tests))

pub reduce_cell : (r : Reduce) (i j : ℕ) → HasCell (pool.Reduce r) i j 0 0
reduce_cell r i j =
    let few = leaves-few r.leaves r.seed r.in_rules in
    record {
      known = omega arith;
      task_is = refl;
      numbers = pos (sum_of_leaves r.seed r.leaves) ∷ [];
      is_value = tree_root r.leaves r.seed r.in_rules few.0 few.1;
      within = omega arith;
      is_cell = refl;
    }

pub wavefront_cell : (w : Wavefront) (i j : ℕ) → i < w.rows → j < w.columns → HasCell (pool.Wavefront w) i j (i * w.columns + j) 0
wavefront_cell w i j p q =
    record {
      known = omega (arith, mul-add-lt i w.columns j w.rows p q);
      task_is = refl;
      numbers = pos (cell w.seed i j) ∷ [];
      is_value = wave_cell w.rows w.columns w.seed w.in_rules i j p q;
      within = omega arith;
      is_cell = refl;
    }

list-at : {A : Type 0} (count : ℕ) (f : ℕ → A) (k : ℕ) (d : A) → k < count → get_or (list_of count f) k d ≡ f k
list-at zero f k d h = absurd (omega arith)
list-at (suc count) f zero d h = refl
list-at (suc count) f (suc k) d h = list-at count (λ e. f (suc e)) k d (omega arith)

pub product_cell : (p : Product) (x y : ℕ) → x < p.tiles * p.side → y < p.tiles * p.side →
    HasCell (pool.Product p) x y ((x / p.side) * p.tiles + y / p.side) ((x % p.side) * p.side + y % p.side)
product_cell p x y h q =
    let some : 0 < p.side = omega (arith, p.in_rules.some_side) in
    let f : ℕ → ℤ = λ e. entry (p.tiles * p.side) p.seed ((x / p.side) * p.side + e / p.side) ((y / p.side) * p.side + e % p.side) in
    let place : ℕ = (x % p.side) * p.side + y % p.side in
    let xs : x % p.side < p.side = omega arith in
    let ys : y % p.side < p.side = omega arith in
    let inside : place < p.side * p.side = mul-add-lt (x % p.side) p.side (y % p.side) p.side xs ys in
    let ex : (x / p.side) * p.side + place / p.side ≡ x =
    ap (λ n. (x / p.side) * p.side + n) (div-mul-add (x % p.side) p.side (y % p.side) ys) ∙ div-add-mod' x p.side in
    let ey : (y / p.side) * p.side + place % p.side ≡ y =
    ap (λ n. (y / p.side) * p.side + n) (mod-mul-add (x % p.side) p.side (y % p.side) ys) ∙ div-add-mod' y p.side in
    let row : x / p.side < p.tiles = div_below x p.side p.tiles some h in
    let column : y / p.side < p.tiles = div_below y p.side p.tiles some q in
    record {
      known = omega (arith, mul-add-lt (x / p.side) p.tiles (y / p.side) p.tiles row column);
      task_is = refl;
      numbers = list_of (p.side * p.side) f;
      is_value = product_tile p.tiles p.side p.seed p.in_rules (x / p.side) (y / p.side) row column;
      within = omega (arith, list-length (p.side * p.side) f, inside);
      is_cell = list-at (p.side * p.side) f place (pos 0) inside
          ∙ ap (λ a. entry (p.tiles * p.side) p.seed a ((y / p.side) * p.side + place % p.side)) ex
          ∙ ap (entry (p.tiles * p.side) p.seed x) ey;
    }

-- the last task that adds to a tile
pub last_of : (t k tiles : ℕ) → 0 < tiles → k * tiles + (tiles - 1) ≡ t → (t % tiles + 1 ≡ tiles) × (t / tiles ≡ k)
last_of t k tiles some e =
    let last : tiles - 1 < tiles = omega arith in
    let column : t % tiles ≡ tiles - 1 = ap (λ n. n % tiles) (sym e) ∙ mod-mul-add k tiles (tiles - 1) last in
    (omega (arith, column), ap (λ n. n / tiles) (sym e) ∙ div-mul-add k tiles (tiles - 1) last)
