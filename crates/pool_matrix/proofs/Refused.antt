-- Which tiles of the product have a result, and why a run of a product has none.
pub mod Events
pub use Events.*

-- the last task that adds to the number in a row and a column
abbrev pub last_task : ℕ → ℕ → ℕ → ℕ → ℕ
last_task tiles side x y = (x / side * tiles + y / side) * tiles + (tiles - 1)

-- a task does not lack a result
abbrev pub HasOne : Results → ℕ → Type 0
HasOne results task = All (λ r. r.0.0 ≢ task) results → ⊥

-- one number more is there
pub one_more_there : (tiles side order b task : ℕ) (results : Results) (value : List ℤ) → order ≡ tiles * side
    → task ≡ last_task tiles side (b / order) (b % order) →
    Contains results (record { 0 = task }, value)
    → ((place : ℕ) → place < b → HasOne results (last_task tiles side (place / (tiles * side)) (place % (tiles * side)))) →
    (place : ℕ) → place < b + 1 → HasOne results (last_task tiles side (place / (tiles * side)) (place % (tiles * side)))
one_more_there tiles side order b task results value o is found before place h none =
    ⊎_elim
    (λ (earlier : place < b). before place earlier none)
    (λ (now : b ≤ place).
    let same : b ≡ place = omega (arith, now, h) in
    let at : last_task tiles side (b / order) (b % order) ≡ last_task tiles side (place / (tiles * side)) (place % (tiles * side)) =
    ap (λ k. last_task tiles side (b / k) (b % k)) o ∙ ap (λ k. last_task tiles side (k / (tiles * side)) (k % (tiles * side))) same in
    none found.0 (record { 0 = task }, value) found.1 (ap (λ r. r.0.0) found.2 ∙ is ∙ at))
    (cases_lt place b)

-- a number whose task is not found is of a tile that has no result
pub lacking : (tiles side order b task tasks : ℕ) (results : Results) (places shown : List ℕ) → 1 ≤ side → order ≡ tiles * side
    → 1 ≤ order → b < order * order →
    task ≡ last_task tiles side (b / order) (b % order) → tasks ≡ tiles * tiles * tiles → shown ≡ places → ArePlaces tasks results places →
    ((tasks : ℕ) → ArePlaces tasks results shown → task < tasks → All (λ r. r.0.0 ≢ task) results) → LacksTile tiles results
lacking tiles side order b task tasks results places shown some o rows h is count same kept missing =
    let x : b / order < order = div_below b order order (omega (arith, rows)) h in
    let y : b % order < order = omega (arith, rows) in
    let row : b / order / side < tiles = div_below (b / order) side tiles (omega (arith, some)) (omega (arith, x, o)) in
    let column : b % order / side < tiles = div_below (b % order) side tiles (omega (arith, some)) (omega (arith, y, o)) in
    let inside : task < tasks =
    omega (arith, is, count, known tiles (b / order / side) (b % order / side) (tiles - 1) row column (omega (arith, row))) in
    record {
      row = b / order / side;
      column = b % order / side;
      row_within = row;
      column_within = column;
      none = λ k d within e. missing tasks (subst (ArePlaces tasks results) (sym same) kept) inside k d within (e ∙ sym is);
    }

-- if each number is there, no tile lacks a result
pub none_lacks : (tiles side order b : ℕ) (results : Results) → 1 ≤ side → order ≡ tiles * side → order * order ≤ b →
    ((place : ℕ) → place < b → HasOne results (last_task tiles side (place / (tiles * side)) (place % (tiles * side))))
    → LacksTile tiles results → ⊥
none_lacks tiles side order b results some o all there lack =
    let n : ℕ = tiles * side in
    let x : lack.row * side + 0 < n = omega (arith, mul-add-lt lack.row side 0 tiles lack.row_within (omega (arith, some))) in
    let y : lack.column * side + 0 < n = omega (arith, mul-add-lt lack.column side 0 tiles lack.column_within (omega (arith, some))) in
    let place : ℕ = (lack.row * side + 0) * n + (lack.column * side + 0) in
    let inside : place < n * n = mul-add-lt (lack.row * side + 0) n (lack.column * side + 0) n x y in
    let squares : order * order ≡ n * n = ap (λ k. k * k) o in
    let row : place / n / side ≡ lack.row =
    ap (λ k. k / side) (div-mul-add (lack.row * side + 0) n (lack.column * side + 0) y)
    ∙ div-mul-add lack.row side 0 (omega (arith, some)) in
    let column : place % n / side ≡ lack.column =
    ap (λ k. k / side) (mod-mul-add (lack.row * side + 0) n (lack.column * side + 0) y)
    ∙ div-mul-add lack.column side 0 (omega (arith, some)) in
    let at : last_task tiles side (place / n) (place % n) ≡ (lack.row * tiles + lack.column) * tiles + (tiles - 1) =
    ap (λ k. (k * tiles + place % n / side) * tiles + (tiles - 1)) row ∙ ap (λ k. (lack.row * tiles + k) * tiles + (tiles - 1)) column in
    there place (omega (arith, inside, squares, all)) (λ k d within e. lack.none k d within (e ∙ at))

-- the values of all tasks lack none
pub all_there : (left right : List ℤ) (tiles side : ℕ) (results : Results)
    → AreValues (matrix_graph left right tiles side) (matrix_graph left right tiles side).tasks results → LacksTile tiles results → ⊥
unfolding Rattle.pool_matrix.specs.Matrices.matrix_graph
all_there left right tiles side results values lack =
    let t : ℕ = (lack.row * tiles + lack.column) * tiles + (tiles - 1) in
    let inside : t < tiles * tiles * tiles =
    known tiles lack.row lack.column (tiles - 1) lack.row_within lack.column_within (omega (arith, lack.row_within)) in
    let d : TaskId × List ℤ = (record { 0 = 0 }, []) in
    lack.none t d (omega (arith, values.long, inside)) (values.rise t d inside)

-- if no tile lacks a result, only an allocation can fail
pub only_memory : (tiles : ℕ) (results : Results) (refusal : Refusal) → (LacksTile tiles results → ⊥)
    → IsMatrixRefusal tiles results refusal → refusal ≡ NoMemory
only_memory tiles results refusal whole why = ⊎_elim (λ e. e) (λ t. absurd (whole t.1)) why

pub product_refused : (left right : List ℤ) (tiles side : ℕ) (results : Results) (refusal : Refusal)
    → HasEachOnce (matrix_graph left right tiles side).tasks results →
    IsMatrixRefusal tiles results refusal → refusal ≡ NoMemory
unfolding Rattle.pool_matrix.specs.Matrices.matrix_graph
product_refused left right tiles side results refusal once why =
    only_memory tiles results refusal (λ lack.
    has_one (tiles * tiles * tiles) ((lack.row * tiles + lack.column) * tiles + (tiles - 1)) results once
    (known tiles lack.row lack.column (tiles - 1) lack.row_within lack.column_within (omega (arith, lack.row_within))) lack.none) why

-- the results of a run have the values of the last of each tile
pub product_kept : (n workers : ℕ) (left right : List ℤ) (tiles side : ℕ) (o : Outcome)
    → IsOutcome n workers (matrix_graph left right tiles side) o → AreKept (matrix_graph left right tiles side) o.results.items
product_kept n workers left right tiles side o is = results_kept (matrix_graph left right tiles side) o.results.items is.right

-- the graph of the product, by what was borrowed
pub product-graph : (product_left product_right left right : List ℤ) (tiles product_side order side : ℕ) → 1 ≤ side →
    (product_left ≡ left) × (product_right ≡ right) × (tiles * product_side ≡ order) × (product_side ≡ side) →
    matrix_graph product_left product_right tiles product_side ≡ matrix_graph left right (order / side) side
product-graph product_left product_right left right tiles product_side order side some made =
    let sides : tiles * side + 0 ≡ tiles * side = omega arith in
    let whole : tiles * side + 0 ≡ order = sides ∙ ap (λ k. tiles * k) (sym made.3) ∙ made.2 in
    let count : tiles ≡ order / side = sym (div-mul-add tiles side 0 (omega (arith, some))) ∙ ap (λ k. k / side) whole in
    ap (λ xs. matrix_graph xs product_right tiles product_side) made.0
    ∙ ap (λ xs. matrix_graph left xs tiles product_side) made.1
    ∙ ap (λ k. matrix_graph left right k product_side) count
    ∙ ap (matrix_graph left right (order / side)) made.3
