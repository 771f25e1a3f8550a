-- The events and the messages of a product in tiles, counted on its graph, row by row, and in the steps of an outcome.
pub mod Tiles
pub use Tiles.*

-- a number and the next one are at the same of one node, and at different ones of several
one-node : (x nodes : ℕ) → nodes ≡ 1 → x % nodes ≡ 0
one-node x nodes is = rw is (omega arith)

next-node : (x nodes : ℕ) → 1 < nodes → x % nodes ≢ (x + 1) % nodes
next-node x nodes many same =
    let q : ℕ = x / nodes in
    let p : ℕ = (x + 1) / nodes in
    let parts : q * nodes + x % nodes ≡ x = div-add-mod' x nodes in
    let later : p * nodes + (x + 1) % nodes ≡ x + 1 = div-add-mod' (x + 1) nodes in
    elim (cases_lt q p) [
      | inl lt ↦ absurd (omega (arith, parts, later, same, many, mul-le (q + 1) nodes p nodes (omega (arith, lt)) (omega arith)))
      | inr le ↦ absurd (omega (arith, parts, later, same, mul-le p nodes q nodes le (omega arith)))
    ]

-- 1 if there are several nodes
abbrev several : ℕ → ℕ
several nodes = if nat_lt 1 nodes then 1 else 0

-- whether two consecutive tasks are at different nodes
abbrev apart : ℕ → ℕ → ℕ
apart x nodes = if x % nodes == (x + 1) % nodes then 0 else 1

apart-several : (x nodes : ℕ) → 1 ≤ nodes → apart x nodes ≡ several nodes
apart-several x nodes one =
    elim (cases_lt 1 nodes) [
      | inl many ↦
          let passes : nat_lt 1 nodes ≡ true = grind (arith, nat_tests) in
          rw (ne_eqb (x % nodes) ((x + 1) % nodes) (next-node x nodes many), passes) refl
      | inr few ↦
          let is : nodes ≡ 1 = omega (arith, few, one) in
          let fails : nat_lt 1 nodes ≡ false = grind (arith, nat_tests) in
          rw (eq-eqb (x % nodes) ((x + 1) % nodes) (one-node x nodes is ∙ sym (one-node (x + 1) nodes is)), fails) refl
    ]

module _ (left right : List ℤ) (tiles side nodes : ℕ) (one : 1 ≤ nodes) where
  -- each task takes 3
  each-three : (t : ℕ) → task_events ((matrix_graph left right tiles side).arity t) ≡ 3
  unfolding Rattle.pool_matrix.specs.Matrices.matrix_graph
  each-three t = grind (arith, nat_tests)

  all-tasks : total (matrix_graph left right tiles side).tasks (λ t. task_events ((matrix_graph left right tiles side).arity t))
      ≡ events_of_tasks tiles
  unfolding Rattle.pool_matrix.specs.Matrices.matrix_graph
  all-tasks =
      let tasks : ℕ = tiles * tiles * tiles in
      total-equal tasks (λ t. task_events ((matrix_graph left right tiles side).arity t)) (λ t. 3) (λ t l. each-three t)
      ∙ total-const tasks 3 ∙ omega arith

  -- the feed of a task of row q, column c
  crosses : (q c : ℕ) → c + 1 < tiles → crossing nodes (matrix_graph left right tiles side) (q * tiles + c) 0 ≡ several nodes
  unfolding Rattle.pool_matrix.specs.Matrices.matrix_graph
  crosses q c lt =
      let t : ℕ = q * tiles + c in
      let row : t / tiles ≡ q = div-mul-add q tiles c (omega (arith, lt)) in
      let column : t % tiles ≡ c = mod-mul-add q tiles c (omega (arith, lt)) in
      let after : t + 1 ≡ q * tiles + (c + 1) = omega arith in
      let row-after : (t + 1) / tiles ≡ q = ap (λ m. m / tiles) after ∙ div-mul-add q tiles (c + 1) lt in
      let column-after : (t + 1) % tiles ≡ c + 1 = ap (λ m. m % tiles) after ∙ mod-mul-add q tiles (c + 1) lt in
      let place : q + (c + 1) ≡ q + c + 1 = omega arith in
      rw (row, column, row-after, column-after, place) (apart-several (q + c) nodes one)

  feeds-inside : (q c : ℕ) → c + 1 < tiles → (matrix_graph left right tiles side).feeds (q * tiles + c) ≡ 1
  unfolding Rattle.pool_matrix.specs.Matrices.matrix_graph
  feeds-inside q c lt =
      let column : (q * tiles + c) % tiles ≡ c = mod-mul-add q tiles c (omega (arith, lt)) in
      let passes : nat_lt (c + 1) tiles ≡ true = grind (arith, nat_tests) in
      rw (column, passes) refl

  -- the messages of that task
  from-inside : (q c : ℕ) → c + 1 < tiles → messages_from nodes (matrix_graph left right tiles side) (q * tiles + c) ≡ several nodes
  from-inside q c lt =
      ap (λ m. total m (crossing nodes (matrix_graph left right tiles side) (q * tiles + c))) (feeds-inside q c lt)
      ∙ omega (arith, crosses q c lt)

  from-end : (q c : ℕ) → c + 1 ≡ tiles → messages_from nodes (matrix_graph left right tiles side) (q * tiles + c) ≡ 0
  unfolding Rattle.pool_matrix.specs.Matrices.matrix_graph
  from-end q c is =
      let column : (q * tiles + c) % tiles ≡ c = mod-mul-add q tiles c (omega (arith, is)) in
      let fails : nat_lt (c + 1) tiles ≡ false = grind (arith, nat_tests) in
      rw (column, fails) refl

  -- the columns of a row, up to this count
  columns : (q n : ℕ) → n + 1 ≡ tiles
      → total (n + 1) (λ c. messages_from nodes (matrix_graph left right tiles side) (q * tiles + c)) ≡ n * several nodes
  columns q n is =
      let from : ℕ → ℕ = λ c. messages_from nodes (matrix_graph left right tiles side) (q * tiles + c) in
      let inside : total n from ≡ n * several nodes =
      total-equal n from (λ c. several nodes) (λ c l. from-inside q c (omega (arith, l, is))) ∙ total-const n (several nodes) in
      total_more n from ∙ omega (arith, inside, from-end q n is)

  row-messages : (q m : ℕ) → m ≡ tiles
      → total m (λ c. messages_from nodes (matrix_graph left right tiles side) (q * tiles + c)) ≡ (m - 1) * several nodes
  row-messages q zero is = omega arith
  row-messages q (suc n) is =
      let more : suc n ≡ n + 1 = omega arith in
      let less : suc n - 1 ≡ n = omega arith in
      ap (λ m. total m (λ c. messages_from nodes (matrix_graph left right tiles side) (q * tiles + c))) more
      ∙ columns q n (sym more ∙ is) ∙ ap (λ m. m * several nodes) (sym less)

  rows-messages : (q : ℕ) → total (q * tiles) (messages_from nodes (matrix_graph left right tiles side)) ≡ q * ((tiles - 1) * several nodes)
  rows-messages zero = let none : 0 * tiles ≡ 0 = omega arith in rw none (omega arith)
  rows-messages (suc q) =
      let from : ℕ → ℕ = messages_from nodes (matrix_graph left right tiles side) in
      let more : suc q * tiles ≡ q * tiles + tiles = omega arith in
      ap (λ m. total m from) more ∙ total-add (q * tiles) tiles from ∙ omega (arith, rows-messages q, row-messages q tiles refl)

  all-messages : messages_of nodes (matrix_graph left right tiles side) ≡ tiles * tiles * ((tiles - 1) * several nodes)
  unfolding Rattle.pool_matrix.specs.Matrices.matrix_graph
  all-messages = rows-messages (tiles * tiles)

-- three for each message
messages-events : (tiles nodes : ℕ) → 3 * (tiles * tiles * ((tiles - 1) * several nodes)) ≡ events_of_messages tiles nodes
messages-events tiles nodes =
    elim (cases_lt 1 nodes) [
      | inl many ↦ let passes : nat_lt 1 nodes ≡ true = grind (arith, nat_tests) in rw passes (omega arith)
      | inr few ↦ let fails : nat_lt 1 nodes ≡ false = grind (arith, nat_tests) in rw fails (omega arith)
    ]

pub events_law : ProductEventsLaw
events_law left right tiles side nodes one =
    omega (
      arith,
      all-tasks left right tiles side nodes one,
      all-messages left right tiles side nodes one,
      messages-events tiles nodes,
    )

pub steps_law : ProductStepsLaw
steps_law left right tiles side nodes made one works =
    events_counted nodes (matrix_graph left right tiles side) made works ∙ events_law left right tiles side nodes one

pub product_law : ProductRunLaw
product_law left right tiles side n workers o one is fed =
    steps_law left right tiles side n (steps_of o.history.events) one (outcome_law n workers (matrix_graph left right tiles side) o is fed)
