-- The cells of a wavefront.
pub mod TreeSums
pub use TreeSums.*
use Rattle.pool_samples.specs.Waves.{wavefront_graph}

least-is : (a b : ℕ) → int_min (pos a) (pos b) ≡ pos (min a b)
least-is a b = grind (arith, nat_tests)

module _ (rows columns seed : ℕ) (kept : IsWavefront rows columns seed) where
  abbrev table : TaskGraph
  table = wavefront_graph rows columns seed

  -- the value of task t is the number n
  abbrev Has : ℕ → ℕ → Type 0
  Has t n = value_of table t ≡ Some (pos n ∷ [])

  -- place (i, j) of the table
  known : (i j : ℕ) → i < rows → j < columns → i * columns + j < rows * columns
  known i j p q = omega (arith, mul-add-lt i columns j rows p q)

  from_one : (i j p a : ℕ) → i < rows → j < columns → (table).arity (i * columns + j) ≡ 1 → (table).source (i * columns + j) 0 ≡ p
      → Has p a → a < 10000 → Has (i * columns + j) (a + cost seed i j)
  unfolding wavefront_graph
  from_one i j p a h q one source is few =
      let c : cost seed i j < 10 = omega arith in
      let small : a + cost seed i j < 2 ^ 63 = omega arith in
      value-one table (i * columns + j) (pos a ∷ []) (wavefront_lawful rows columns seed kept) (known i j h q) one
      (ap (value_of table) source ∙ is)
      ∙ rw (div-mul-add i columns j q, mod-mul-add i columns j q) (fitting-one (a + cost seed i j) small)

  from_two : (i j p p' a b : ℕ) → i < rows → j < columns → (table).arity (i * columns + j) ≡ 2 → (table).source (i * columns + j) 0 ≡ p
      → (table).source (i * columns + j) 1 ≡ p' → Has p a → Has p' b → a < 10000 → Has (i * columns + j) (min a b + cost seed i j)
  unfolding wavefront_graph
  from_two i j p p' a b h q two source source' is is' few =
      let c : cost seed i j < 10 = omega arith in
      let small : min a b + cost seed i j < 2 ^ 63 = omega arith in
      value-two table (i * columns + j) (pos a ∷ []) (pos b ∷ []) (wavefront_lawful rows columns seed kept) (known i j h q) two
      (ap (value_of table) source ∙ is) (ap (value_of table) source' ∙ is')
      ∙ rw (div-mul-add i columns j q, mod-mul-add i columns j q, least-is a b) (fitting-one (min a b + cost seed i j) small)

  first-small : (j : ℕ) → first_row seed j ≤ 10 * (j + 1)
  first-small zero = omega arith
  first-small (suc j) = let c : cost seed 0 (suc j) < 10 = omega arith in omega (arith, first-small j, c)

  next-small : (i : ℕ) (above : ℕ → ℕ) (n : ℕ) → above 0 ≤ n → (j : ℕ) → next_row seed i above j ≤ n + 10 * (j + 1)
  next-small i above n h zero = let c : cost seed i 0 < 10 = omega arith in omega (arith, c)
  next-small i above n h (suc j) = let c : cost seed i (suc j) < 10 = omega arith in omega (arith, c, next-small i above n h j)

  cell-small : (i j : ℕ) → cell seed i j ≤ 10 * (i + j + 1)
  cell-small zero j = omega (arith, first-small j)
  cell-small (suc i) j = omega (arith, next-small (suc i) (cell seed i) (10 * (i + 1)) (omega (arith, cell-small i 0)) j)

  first : (j : ℕ) → j < columns → Has (0 * columns + j) (first_row seed j)
  unfolding wavefront_graph
  first zero h =
      let column = mod-mul-add 0 columns 0 h in
      let small : cost seed 0 0 < 2 ^ 63 = omega arith in
      value-zero table (0 * columns + 0) (wavefront_lawful rows columns seed kept) (known 0 0 (omega (arith, kept.some_rows)) h)
      (grind (arith, nat_tests))
      ∙ rw (div-mul-add 0 columns 0 h, column) (fitting-one (cost seed 0 0) small)
  first (suc j) h =
      let column = mod-mul-add 0 columns (suc j) h in
      let few : first_row seed j < 10000 = omega (arith, first-small j, kept.few_columns) in
      from_one 0 (suc j) (0 * columns + j) (first_row seed j) (omega (arith, kept.some_rows)) h (grind (arith, nat_tests))
      (grind (arith, nat_tests)) (first j (omega arith)) few

  next : (i : ℕ) → suc i < rows → ((j : ℕ) → j < columns → Has (i * columns + j) (cell seed i j)) → (j : ℕ) → j < columns
      → Has (suc i * columns + j) (next_row seed (suc i) (cell seed i) j)
  unfolding wavefront_graph
  next i h above zero q =
      let column = mod-mul-add (suc i) columns 0 q in
      let up : suc i * columns + 0 ≡ (i * columns + 0) + columns = omega arith in
      let few : cell seed i 0 < 10000 = omega (arith, cell-small i 0, kept.few_rows) in
      from_one (suc i) 0 (i * columns + 0) (cell seed i 0) h q (grind (arith, nat_tests)) (grind (arith, nat_tests)) (above 0 q) few
  next i h above (suc j) q =
      let column = mod-mul-add (suc i) columns (suc j) q in
      let up : suc i * columns + suc j ≡ (i * columns + suc j) + columns = omega arith in
      let left : suc i * columns + suc j ≡ (suc i * columns + j) + 1 = omega arith in
      let few : cell seed i (suc j) < 10000 = omega (arith, cell-small i (suc j), kept.few_rows, kept.few_columns) in
      from_two (suc i) (suc j) (i * columns + suc j) (suc i * columns + j) (cell seed i (suc j)) (next_row seed (suc i) (cell seed i) j) h q
      (grind (arith, nat_tests)) (grind (arith, nat_tests)) (grind (arith, nat_tests)) (above (suc j) q) (next i h above j (omega arith))
      few

  -- each task's value is the table's cell
  pub wave_cell : (i j : ℕ) → i < rows → j < columns
      → value_of (wavefront_graph rows columns seed) (i * columns + j) ≡ Some (pos (cell seed i j) ∷ [])
  wave_cell zero j p q = first j q
  wave_cell (suc i) j p q = next i p (λ k r. wave_cell i k (omega arith) r) j q

  -- each task has a value
  pub wave_valued : (t : ℕ) → t < rows * columns → IsSome (value_of (wavefront_graph rows columns seed) t)
  wave_valued t h =
      let some : 0 < columns = omega (arith, kept.some_columns) in
      let e = wave_cell (t / columns) (t % columns) (div_below t columns rows some h) (omega arith) in
      subst (λ (o : Option (List ℤ)). IsSome o) (sym (sym (ap (value_of table) (div-add-mod' t columns)) ∙ e)) (search rules)
