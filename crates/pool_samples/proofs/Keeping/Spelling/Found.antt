-- Finding the numbers of a table among results.
pub mod PlainCells
pub use PlainCells.*
use Rattle.pool_samples.specs.declared.any.AnyGraph.TheVariants as pool

-- a table needs the values of few tasks
pub needed_few : (graph : AnyGraph) → needed graph ≤ 4096
needed_few (pool.Product p) = mul-le p.tiles p.tiles 64 64 p.in_rules.few_tiles p.in_rules.few_tiles
needed_few (pool.Wavefront w) = mul-le w.rows w.columns 64 64 w.in_rules.few_rows w.in_rules.few_columns
needed_few (pool.Reduce r) = omega arith

-- what holds for each element of a list holds for each of its beginning
pub front : {A : Type 0} (P : A → Type 0) (xs ys : List A) → All P (xs ++ ys) → All P xs
front P xs ys h = λ i d p. subst P (get_or_append_left xs ys d i p) (h i d (omega (arith, length-append xs ys)))

pub last : {A : Type 0} (P : A → Type 0) (xs : List A) (y : A) → All P (xs ++ y ∷ []) → P y
last P xs y h = subst P (get_or-append_seam xs y [] y) (h (length xs) y (omega (arith, length-append xs (y ∷ []))))

-- one element of a list is set, and what is known of each of the others goes on to be
set_more : {A : Type 0} (Was Is : ℕ → A → Type 0) (n : ℕ) (xs : List A) (rank : ℕ) (v d : A) → rank < length xs → Is rank v
    → ((other : ℕ) → other < n → other ≢ rank → Was other (get_or xs other d) → Is other (get_or xs other d))
    → ((other : ℕ) → other < n → Was other (get_or xs other d)) → (other : ℕ) → other < n → Is other (get_or (set xs rank v) other d)
set_more Was Is n xs rank v d within here stays was other h =
    ⊎_elim
    (λ (e : other ≡ rank). subst (λ m. Is m (get_or (set xs rank v) m d)) (sym e)
    (subst (Is rank) (sym (get_or-set_same xs rank v d within)) here))
    (λ (ne : other ≢ rank). subst (Is other) (sym (get_or-set_other xs rank other v d ne)) (stays other h ne (was other h)))
    (cases_eq other rank)

module _ (graph : AnyGraph) (results : Results) (k : ℕ) (r : TaskId
    × List ℤ) (inside : k < length results) (is : r ≡ get_or results k r) where
  next : take (k + 1) results ≡ take k results ++ r ∷ []
  next = take_more results k r inside ∙ ap (λ x. take k results ++ x ∷ []) (sym is)

  -- one more result: of another task, or of the task
  none_more : (task : ℕ) → r.0.0 ≢ task → HasNone (take k results) task → HasNone (take (k + 1) results) task
  none_more task not none =
      All-more (λ (x : TaskId × List ℤ). x.0.0 ≢ task) results k r inside none (subst (λ (x : TaskId × List ℤ). x.0.0 ≢ task) is not)

  some_more : (task : ℕ) → ¬ HasNone (take k results) task → ¬ HasNone (take (k + 1) results) task
  some_more task some = λ none.
      some (front (λ (x : TaskId × List ℤ). x.0.0 ≢ task) (take k results) (r ∷ []) (subst (λ l. HasNone l task) next none))

  here : (task : ℕ) → task ≡ r.0.0 → ¬ HasNone (take (k + 1) results) task
  here task same = λ none.
      last (λ (x : TaskId × List ℤ). x.0.0 ≢ task) (take k results) r (subst (λ l. HasNone l task) next none) (sym same)

  found_more : (rank : ℕ) (o : Option (Bor (List ℤ))) → r.0.0 ≢ needed_task graph rank → IsFound graph (take k results) rank o
      → IsFound graph (take (k + 1) results) rank o
  found_more rank None not found = none_more (needed_task graph rank) not found
  found_more rank (Some v) not found = (found.0, some_more (needed_task graph rank) found.1)

  known_more : (rank : ℕ) (b : Bool) → r.0.0 ≢ needed_task graph rank → IsKnown graph (take k results) rank b
      → IsKnown graph (take (k + 1) results) rank b
  known_more rank false not none = none_more (needed_task graph rank) not none
  known_more rank true not known = some_more (needed_task graph rank) known

  -- one more result, which no table needs
  pub index_more : (values : List (Option (Bor (List ℤ)))) → ((rank : ℕ) → rank < needed graph → r.0.0 ≢ needed_task graph rank) →
      IsIndex graph (take k results) values → IsIndex graph (take (k + 1) results) values
  index_more values not index = λ rank h. found_more rank (get_or values rank None) (not rank h) (index rank h)

  pub mark_more : (known : List Bool) → ((rank : ℕ) → rank < needed graph → r.0.0 ≢ needed_task graph rank) →
      IsMarked graph (take k results) known → IsMarked graph (take (k + 1) results) known
  mark_more known not marked = λ rank h. known_more rank (get_or known rank false) (not rank h) (marked rank h)

  -- one more result, of a needed task
  pub index_set : (values : List (Option (Bor (List ℤ)))) (rank : ℕ) (v : Bor (List ℤ)) → rank < length values
      → needed_task graph rank ≡ r.0.0 → v.now ≡ r.1 →
      value_of (any_graph graph) r.0.0 ≡ Some r.1 → ((other : ℕ) → other < needed graph → needed_task graph other ≡ r.0.0 → other ≡ rank) →
      IsIndex graph (take k results) values → IsIndex graph (take (k + 1) results) (set values rank (Some v))
  index_set values rank v within same seen right only index =
      set_more (IsFound graph (take k results)) (IsFound graph (take (k + 1) results)) (needed graph) values rank (Some v) None within
      (ap (value_of (any_graph graph)) same ∙ right ∙ ap Some (sym seen), here (needed_task graph rank) same)
      (λ other h ne. found_more other (get_or values other None) (λ e. ne (only other h (sym e)))) index

  pub mark_set : (known : List Bool) (rank : ℕ) → rank < length known → needed_task graph rank ≡ r.0.0 →
      ((other : ℕ) → other < needed graph → needed_task graph other ≡ r.0.0 → other ≡ rank) →
      IsMarked graph (take k results) known → IsMarked graph (take (k + 1) results) (set known rank true)
  mark_set known rank within same only marked =
      set_more (IsKnown graph (take k results)) (IsKnown graph (take (k + 1) results)) (needed graph) known rank true false within
      (here (needed_task graph rank) same)
      (λ other h ne. known_more other (get_or known other false) (λ e. ne (only other h (sym e)))) marked

-- a list of equal elements, with the same default after its end
pub get_or-replicate_same : {A : Type 0} (n i : ℕ) (a : A) → get_or (replicate n a) i a ≡ a
get_or-replicate_same zero i a = refl
get_or-replicate_same (suc n) zero a = refl
get_or-replicate_same (suc n) (suc i) a = get_or-replicate_same n i a

-- a needed task has a cell of the table
pub cell_of : (graph : AnyGraph) (results : Results) (rank : ℕ) → rank < needed graph → HasNone results (needed_task graph rank)
    → LacksCell graph results
cell_of (pool.Product p) results rank h none =
    let some : 0 < p.side = omega (arith, p.in_rules.some_side) in
    let tiles : 0 < p.tiles = omega (arith, p.in_rules.some_tiles) in
    let row : rank / p.tiles < p.tiles = div_below rank p.tiles p.tiles tiles h in
    let column : rank % p.tiles < p.tiles = omega arith in
    let x : (rank / p.tiles) * p.side + 0 < p.tiles * p.side = omega (arith, mul-add-lt (rank / p.tiles) p.side 0 p.tiles row some) in
    let y : (rank % p.tiles) * p.side + 0 < p.tiles * p.side = omega (arith, mul-add-lt (rank % p.tiles) p.side 0 p.tiles column some) in
    let same : (((rank / p.tiles) * p.side + 0) / p.side) * p.tiles + ((rank % p.tiles) * p.side + 0) / p.side ≡ rank =
    ap (λ n. n * p.tiles + ((rank % p.tiles) * p.side + 0) / p.side) (div-mul-add (rank / p.tiles) p.side 0 some)
    ∙ ap (λ n. (rank / p.tiles) * p.tiles + n) (div-mul-add (rank % p.tiles) p.side 0 some) ∙ div-add-mod' rank p.tiles in
    record {
      row = (rank / p.tiles) * p.side + 0;
      column = (rank % p.tiles) * p.side + 0;
      row_within = x;
      column_within = y;
      none = subst (λ n. HasNone results (n * p.tiles + (p.tiles - 1))) (sym same) none;
    }
cell_of (pool.Wavefront w) results rank h none =
    let some : 0 < w.columns = omega (arith, w.in_rules.some_columns) in
    record {
      row = rank / w.columns;
      column = rank % w.columns;
      row_within = div_below rank w.columns w.rows some h;
      column_within = omega arith;
      none = subst (HasNone results) (sym (div-add-mod' rank w.columns)) none;
    }
cell_of (pool.Reduce r) results rank h none =
    record { row = 0; column = 0; row_within = omega arith; column_within = omega arith; none = none }

-- a cell of the table is in the value of a needed task
pub any_cell : (graph : AnyGraph) (i j : ℕ) → i < (table_of graph).rows → j < (table_of graph).columns → (rank : ℕ) × (place : ℕ)
    × HasCell graph i j rank place
any_cell (pool.Product p) i j h q = (_, _, product_cell p i j h q)
any_cell (pool.Wavefront w) i j h q = (_, _, wavefront_cell w i j h q)
any_cell (pool.Reduce r) i j h q = (_, _, reduce_cell r i j)

-- if each needed task has a result, no cell is missing
pub lacks_none : (graph : AnyGraph) (results : Results) → ((rank : ℕ) → rank < needed graph → ¬ HasNone results (needed_task graph rank))
    → ¬ LacksCell graph results
lacks_none graph results each = λ lack.
    let cell = (any_cell graph lack.row lack.column lack.row_within lack.column_within).2 in
    each _ cell.known (subst (HasNone results) (sym cell.task_is) lack.none)

pub is_there : (graph : AnyGraph) (results : Results) (rank : ℕ) (o : Option (Bor (List ℤ))) → IsFound graph results rank o → IsSome o
    → ¬ HasNone results (needed_task graph rank)
is_there graph results rank None found some = absurd (search rules)
is_there graph results rank (Some v) found some = found.1

pub is_known : (graph : AnyGraph) (results : Results) (rank : ℕ) (b : Bool) → IsKnown graph results rank b → IsTrue b
    → ¬ HasNone results (needed_task graph rank)
is_known graph results rank false found some = absurd (search rules)
is_known graph results rank true found some = found

-- the number of a cell
pub number_is : (graph : AnyGraph) (i j rank place : ℕ) (v : List ℤ) → HasCell graph i j rank place
    → value_of (any_graph graph) (needed_task graph rank) ≡ Some v → get_or v place (pos 0) ≡ (table_of graph).at i j
number_is graph i j rank place v cell e =
    ap (λ l. get_or l place (pos 0)) (some_same (sym e ∙ cell.is_value)) ∙ cell.is_cell
