-- The numbers of a product are small, so its tasks have values.
pub mod EntryTables
pub use EntryTables.*
use Rattle.pool_samples.specs.Products.{product_graph}

term-small : (seed x y z : ℕ) → unsigned_abs (term seed x y z) ≤ 100
term-small seed x y z =
    rw (unsigned_abs-mul (left_entry seed x z) (right_entry seed z y))
    (mul-le (unsigned_abs (left_entry seed x z)) (unsigned_abs (right_entry seed z y)) 10 10
    (small_entry (7 * x + 3 * z + seed)) (small_entry (5 * z + 2 * y + seed)))

abs-add : (a b : ℤ) (n : ℕ) → unsigned_abs a ≤ n → unsigned_abs b ≤ 100 → unsigned_abs (a +ℤ b) ≤ n + 100
abs-add a b n p q = omega (arith, ints)

sum-small : (start count : ℕ) (f : ℕ → ℤ) → ((z : ℕ) → unsigned_abs (f z) ≤ 100) → unsigned_abs (sum_from start count f) ≤ 100 * count
sum-small start zero f h = omega arith
sum-small start (suc count) f h =
    let ih : unsigned_abs (sum_from start count f) ≤ 100 * count = sum-small start count f h in
    let one : unsigned_abs (f (start + count)) ≤ 100 = h (start + count) in
    omega (arith, abs-add (sum_from start count f) (f (start + count)) (100 * count) ih one)

list-same : {A : Type 0} (count : ℕ) (f h : ℕ → A) → ((e : ℕ) → f e ≡ h e) → list_of count f ≡ list_of count h
list-same zero f h e = refl
list-same (suc count) f h e = rw (e 0) (ap (λ l. h 0 ∷ l) (list-same count (λ k. f (suc k)) (λ k. h (suc k)) (λ k. e (suc k))))

list-fits : (count : ℕ) (f : ℕ → ℤ) → ((e : ℕ) → fits (f e) ≡ true) → all_fit (list_of count f) ≡ true
list-fits zero f h = refl
list-fits (suc count) f h =
    and_from (fits (f 0)) (all_fit (list_of count (λ k. f (suc k)))) (h 0) (list-fits count (λ k. f (suc k)) (λ k. h (suc k)))

list-added : (count : ℕ) (f h : ℕ → ℤ) → add_lists (list_of count f) (list_of count h) ≡ list_of count (λ e. f e +ℤ h e)
list-added zero f h = refl
list-added (suc count) f h = ap (λ l. (f 0 +ℤ h 0) ∷ l) (list-added count (λ k. f (suc k)) (λ k. h (suc k)))

sum-split : (start m n : ℕ) (f : ℕ → ℤ) → sum_from start m f +ℤ sum_from (start + m) n f ≡ sum_from start (m + n) f
sum-split start m zero f =
    let e : m + 0 ≡ m = omega arith in
    +ℤ_idr (sum_from start m f) ∙ ap (λ k. sum_from start k f) (sym e)
sum-split start m (suc n) f =
    let e : m + suc n ≡ suc (m + n) = omega arith in
    let place : start + m + n ≡ start + (m + n) = omega arith in
    sym (+ℤ_assoc (sum_from start m f) (sum_from (start + m) n f) (f (start + m + n)))
    ∙ ap (λ s. s +ℤ f (start + m + n)) (sum-split start m n f)
    ∙ ap (λ p. sum_from start (m + n) f +ℤ f p) place
    ∙ ap (λ k. sum_from start k f) (sym e)

module _ (tiles side seed : ℕ) (kept : IsProduct tiles side seed) where
  -- the sums of a tile so far
  so_far : ℕ → ℕ → ℕ → ℕ → ℤ
  so_far i j count e = sum_from 0 count (term seed (i * side + e / side) (j * side + e % side))

  so_far-fits : (i j count e : ℕ) → count ≤ 64 → fits (so_far i j count e) ≡ true
  unfolding so_far
  so_far-fits i j count e h =
      let f : ℕ → ℤ = term seed (i * side + e / side) (j * side + e % side) in
      fits-from (sum_from 0 count f) (omega (arith, sum-small 0 count f (term-small seed (i * side + e / side) (j * side + e % side))))

  known : (i j k : ℕ) → i < tiles → j < tiles → k < tiles → (i * tiles + j) * tiles + k < tiles * tiles * tiles
  known i j k p q r = let row = mul-add-lt i tiles j tiles p q in omega (arith, mul-add-lt (i * tiles + j) tiles k (tiles * tiles) row r)

  part : ℕ → ℕ → ℕ → ℕ → ℤ
  part i j k e = sum_from (k * side) side (term seed (i * side + e / side) (j * side + e % side))

  first_part : (i j e : ℕ) → part i j 0 e ≡ so_far i j (1 * side) e
  unfolding part so_far
  first_part i j e =
      let f : ℕ → ℤ = term seed (i * side + e / side) (j * side + e % side) in
      let none : 0 * side ≡ 0 = omega arith in
      let one : side ≡ 1 * side = omega arith in
      ap (λ s. sum_from s side f) none ∙ ap (λ n. sum_from 0 n f) one

  next_part : (i j k e : ℕ) → so_far i j ((k + 1) * side) e +ℤ part i j (suc k) e ≡ so_far i j ((suc k + 1) * side) e
  unfolding part so_far
  next_part i j k e =
      let f : ℕ → ℤ = term seed (i * side + e / side) (j * side + e % side) in
      let start : suc k * side ≡ 0 + (k + 1) * side = omega arith in
      let many : (k + 1) * side + side ≡ (suc k + 1) * side = omega arith in
      ap (λ s. sum_from 0 ((k + 1) * side) f +ℤ sum_from s side f) start ∙ sum-split 0 ((k + 1) * side) side f
      ∙ ap (λ n. sum_from 0 n f) many

  within : (k : ℕ) → k < tiles → (k + 1) * side ≤ 64
  within k h = let m = mul-le (k + 1) side tiles side (omega arith) (omega arith) in omega (arith, m, kept.small)

  sums-fit : (i j k : ℕ) → k < tiles
      → fitting (list_of (side * side) (so_far i j ((k + 1) * side))) ≡ Some (list_of (side * side) (so_far i j ((k + 1) * side)))
  sums-fit i j k h =
      rw (list-fits (side * side) (so_far i j ((k + 1) * side)) (λ e. so_far-fits i j ((k + 1) * side) e (within k h))) refl

  input_added : (i j k : ℕ) → k < tiles → (made : List ℤ) → made ≡ list_of (side * side) (part i j (suc k)) → suc k < tiles →
      then_some (tile_and_input (side * side) made (list_of (side * side) (so_far i j ((k + 1) * side)) ∷ [])) fitting
      ≡ Some (list_of (side * side) (so_far i j ((suc k + 1) * side)))
  input_added i j k h made e r =
      let prev : List ℤ = list_of (side * side) (so_far i j ((k + 1) * side)) in
      let long : nat_eq (length prev) (side * side) ≡ true =
      ap (λ n. nat_eq n (side * side)) (list-length (side * side) (so_far i j ((k + 1) * side))) ∙ nat-same (side * side) in
      let sums : add_lists prev made ≡ list_of (side * side) (so_far i j ((suc k + 1) * side)) =
      ap (add_lists prev) e ∙ list-added (side * side) (so_far i j ((k + 1) * side)) (part i j (suc k))
      ∙ list-same (side * side) (λ x. so_far i j ((k + 1) * side) x +ℤ part i j (suc k) x)
      (so_far i j ((suc k + 1) * side)) (next_part i j k) in
      rw long (ap fitting sums ∙ sums-fit i j (suc k) r)

  -- the row of products and the tile of task (i, j, k)
  task_is : (i j k : ℕ) → j < tiles → k < tiles → (let t : ℕ = (i * tiles + j) * tiles + k in
      (t % tiles ≡ k) × (tile side seed (t / tiles / tiles) (t / tiles % tiles) (t % tiles) ≡ list_of (side * side) (part i j k)))
  unfolding part
  task_is i j k q r =
      let c = mod-mul-add (i * tiles + j) tiles k r in
      let d = div-mul-add (i * tiles + j) tiles k r in
      let t : ℕ = (i * tiles + j) * tiles + k in (
        c,
        ap (λ m. tile side seed m (t / tiles % tiles) (t % tiles)) (ap (λ m. m / tiles) d ∙ div-mul-add i tiles j q)
            ∙ ap (λ m. tile side seed i m (t % tiles)) (ap (λ m. m % tiles) d ∙ mod-mul-add i tiles j q)
            ∙ ap (tile side seed i j) c,
      )

  step : (i j k : ℕ) → i < tiles → j < tiles → k < tiles →
      value_of (product_graph tiles side seed) ((i * tiles + j) * tiles + k) ≡ Some (list_of (side * side) (so_far i j ((k + 1) * side)))
  unfolding product_graph
  step i j zero p q r =
      let t : ℕ = (i * tiles + j) * tiles + 0 in
      let is = task_is i j 0 q r in
      let none : (product_graph tiles side seed).arity t ≡ 0 = ap (λ m. if nat_eq m 0 then 0 else 1) is.0 in
      let made : tile side seed (t / tiles / tiles) (t / tiles % tiles) (t % tiles) ≡ list_of (side * side) (so_far i j ((0 + 1) * side)) =
      is.1 ∙ list-same (side * side) (part i j 0) (so_far i j (1 * side)) (first_part i j) in
      value-zero (product_graph tiles side seed) t (product_lawful tiles side seed kept) (known i j 0 p q r) none ∙ ap fitting made
      ∙ sums-fit i j 0 r
  step i j (suc k) p q r =
      let t : ℕ = (i * tiles + j) * tiles + suc k in
      let is = task_is i j (suc k) q r in
      let one : (product_graph tiles side seed).arity t ≡ 1 = ap (λ m. if nat_eq m 0 then 0 else 1) is.0 ∙ grind (arith, nat_tests) in
      let lower : k < tiles = omega arith in
      let before : t - 1 ≡ (i * tiles + j) * tiles + k = omega arith in
      value-one (product_graph tiles side seed) t (list_of (side * side) (so_far i j ((k + 1) * side)))
      (product_lawful tiles side seed kept) (known i j (suc k) p q r) one
      (ap (value_of (product_graph tiles side seed)) before ∙ step i j k p q lower)
      ∙ input_added i j k lower (tile side seed (t / tiles / tiles) (t / tiles % tiles) (t % tiles)) is.1 r

  -- the last task in a row of k has a tile of the product, each entry one sum over all z
  pub product_tile : (i j : ℕ) → i < tiles → j < tiles →
      value_of (product_graph tiles side seed) ((i * tiles + j) * tiles + (tiles - 1))
      ≡ Some (list_of (side * side) (λ e. entry (tiles * side) seed (i * side + e / side) (j * side + e % side)))
  unfolding so_far
  product_tile i j p q =
      let last : tiles - 1 < tiles = omega (arith, kept.some_tiles) in
      let all : (tiles - 1 + 1) * side ≡ tiles * side =
      ap (λ n. n * side) (let n : tiles - 1 + 1 ≡ tiles = omega (arith, kept.some_tiles) in n) in
      step i j (tiles - 1) p q last
      ∙ ap (λ n. Some (list_of (side * side) (λ e. sum_from 0 n (term seed (i * side + e / side) (j * side + e % side))))) all

  -- each task has a value
  pub product_valued : (t : ℕ) → t < tiles * tiles * tiles → IsSome (value_of (product_graph tiles side seed) t)
  product_valued t h =
      let some : 0 < tiles = omega (arith, kept.some_tiles) in
      let upper : t / tiles < tiles * tiles = div_below t tiles (tiles * tiles) some h in
      let e = step (t / tiles / tiles) (t / tiles % tiles) (t % tiles) (div_below (t / tiles) tiles tiles some upper) (omega arith)
      (omega arith) in
      let place : (t / tiles / tiles * tiles + t / tiles % tiles) * tiles + t % tiles ≡ t =
      ap (λ n. n * tiles + t % tiles) (div-add-mod' (t / tiles) tiles) ∙ div-add-mod' t tiles in
      subst (λ (o : Option (List ℤ)). IsSome o) (sym (sym (ap (value_of (product_graph tiles side seed)) place) ∙ e)) (search rules)
