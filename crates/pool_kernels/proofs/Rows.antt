-- The last row of a grid, from the values of its tasks.
use Rattle.pool_blocks.{proofs.JoinedValues.joining, specs.{Joined.{KeepsFrom, LacksTask, in_a_row, numbers_from}, Lists.list_of}}
use Rattle.pool_kernels.{proofs.Cells.cell_is, specs.{Grids.{IsNarrow, Relation, grid_graph}, Kernels.{Rule, cell, kernel_graph, row_at}}}
use Rattle.pool_kernels.specs.Kernels.{rule_in}
use Rattle.std.proofs.Common.{◌≡◌, ◌≢◌, ◌<◌, ◌≤◌, ◌+◌, ◌-◌, ◌*◌, ℕ, zero, suc, ℤ, List, [], ◌∷◌, ◌++◌, length, get_or, Some, Option}
use Rattle.std.proofs.Common.{refl, ap, sym, ◌∙◌, arith, IsTrue}
use Rattle.std.proofs.lemmas.{Bool.{le-leb, ne_eqb, Decides.nat_tests}, List.Sums.sum_by-cons, Nat.mul-add-lt}
use Rattle.std.specs.{List.{All, count_by}, Prelude.◌==◌}
use Rattle.tp_graph.{proofs.{Made.{gathered, some_same, then_some-is}, Valued.gather-same}, specs.{Found.HasEachOnce, Graphs.TaskGraph}}
use Rattle.tp_graph.specs.{Left.AreKept, Serial.Results, Values.{gather, value_of}}

-- ---- the last row of a grid
last_kept : (r : Relation) (w steps : ℕ) (rule : ℕ → List (List ℤ) → Option (List ℤ)) (t column : ℕ)
    → t ≡ (steps - 1) * w + column → IsTrue ((grid_graph r w steps rule).keeps t)
unfolding grid_graph
last_kept r w steps rule t column e = le-leb ((steps - 1) * w) t (omega (arith, e))

-- the last row, from the numbers of its tasks
pub row_from : (r : Relation) (rule : Rule) (w steps first count : ℕ) (results : Results) (row : List ℤ) → IsNarrow r w steps → 1 ≤ steps
    → first ≡ (steps - 1) * w → count ≡ w → AreKept (kernel_graph r rule w steps) results
    → ((g : TaskGraph) → AreKept g results → KeepsFrom g first count → numbers_from g first count ≡ Some row)
    → row_at r rule w (steps - 1) ≡ Some row
row_from r rule w steps first count results row narrow some place whole right made =
    let g : TaskGraph = kernel_graph r rule w steps in
    let cells : (i : ℕ) → i < w → value_of g ((steps - 1) * w + i) ≡ cell r rule w (steps - 1) i =
    λ i h. cell_is r rule w steps narrow (steps - 1) i (omega arith) h in
    sym (ap joining (gather-same w (λ i. value_of g ((steps - 1) * w + i)) (cell r rule w (steps - 1)) cells))
    ∙ ap (λ m. numbers_from g m w) (sym place) ∙ ap (numbers_from g first) (sym whole)
    ∙ made g right (λ i h. last_kept r w steps (rule_in rule w) (first + i) i (ap (λ m. m + i) place))

-- if no result is of a task, the task has none
times-none : (t : ℕ) (results : Results) → All (λ r. r.0.0 ≢ t) results → count_by (λ r. r.0.0 == t) results ≡ 0
times-none t [] h = refl
times-none t (x ∷ xs) h =
    let r = times-none t xs (λ i d p. h (suc i) d (omega arith)) in
    rw (sum_by-cons, ne_eqb x.0.0 t (h 0 x (omega arith))) (omega (arith, r))

-- each task of the last row has a result
pub row_whole : (w steps first count : ℕ) (results : Results) → 1 ≤ steps → first ≡ (steps - 1) * w → count ≡ w
    → HasEachOnce (steps * w) results → LacksTask first count results → ⊥
row_whole w steps first count results some place whole once lack =
    let t : ℕ = first + lack.place in
    let known : t < steps * w = omega (arith, mul-add-lt (steps - 1) w lack.place steps (omega arith) (omega (arith, lack.within))) in
    let one : count_by (λ r. r.0.0 == t) results ≡ 1 = grind (arith, nat_tests, once t) in
    omega (arith, times-none t results lack.none)

-- ---- a row of blocks of one size
list_same : (n : ℕ) (f g : ℕ → ℤ) → ((e : ℕ) → e < n → f e ≡ g e) → list_of n f ≡ list_of n g
list_same zero f g h = refl
list_same (suc n) f g h =
    rw (h 0 (omega arith), list_same n (λ e. f (suc e)) (λ e. g (suc e)) (λ e q. h (suc e) (omega arith))) refl

-- f from a number on
list_plus : (m n : ℕ) (f g : ℕ → ℤ) → ((e : ℕ) → g e ≡ f (m + e)) → list_of m f ++ list_of n g ≡ list_of (m + n) f
list_plus zero n f g h =
    let none : 0 + n ≡ n = omega arith in
    rw none (list_same n g f (λ e q. h e ∙ ap f (omega arith)))
list_plus (suc m) n f g h =
    let next : suc m + n ≡ suc (m + n) = omega arith in
    rw (next, list_plus m n (λ e. f (suc e)) g (λ e. h e ∙ ap f (omega arith))) refl

concat_blocks : (values : List (List ℤ)) (size : ℕ) (f : ℕ → ℤ)
    → ((i : ℕ) → i < length values → get_or values i [] ≡ list_of size (λ e. f (i * size + e)))
    → in_a_row values ≡ list_of (length values * size) f
concat_blocks [] size f h = let none : 0 * size ≡ 0 = omega arith in rw none refl
concat_blocks (x ∷ xs) size f h =
    let all : suc (length xs) * size ≡ size + length xs * size = omega arith in
    let first : x ≡ list_of size f = h 0 (omega arith) ∙ list_same size _ _ (λ e q. ap f (omega arith)) in
    let rest =
    concat_blocks xs size (λ e. f (size + e)) (λ i q. h (suc i) (omega arith) ∙ list_same size _ _ (λ e p. ap f (omega arith))) in
    rw (all, first, rest) (list_plus size (length xs * size) f _ (λ e. refl))

-- If each column of a row that has a value has one block of a list, the row is the list.
pub row_of_blocks : (r : Relation) (rule : Rule) (w t size : ℕ) (f : ℕ → ℤ) (row : List ℤ)
    → ((i : ℕ) (value : List ℤ) → i < w → cell r rule w t i ≡ Some value → value ≡ list_of size (λ e. f (i * size + e)))
    → row_at r rule w t ≡ Some row → row ≡ list_of (w * size) f
row_of_blocks r rule w t size f row each e =
    let made = then_some-is (gather w (cell r rule w t)) (λ values. Some (in_a_row values)) row e in
    let all = gathered w (cell r rule w t) made.0 [] made.1 in
    sym (some_same made.2)
    ∙ concat_blocks made.0 size f (λ i h. each i (get_or made.0 i []) (omega (arith, all.0)) (all.1 i (omega (arith, all.0))))
    ∙ ap (λ n. list_of (n * size) f) all.0
