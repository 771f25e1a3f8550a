-- The entries of a table of feeds, and the outputs and inputs of rows that they are computed from.
use Rattle.pool_kernels.specs.{Grids.{AreSizes, ComesAgain, Relation, inputs, output, outputs}, Ranks.rank}
use Rattle.pool_kernels.specs.declared.kinds.{Kinds.Kinds, Output.Output, Span.Span, Spot.Spot}
use Rattle.std.specs.Prelude.{◌≡◌, ◌<◌, ◌≤◌, ◌+◌, ◌-◌, ◌*◌, ◌/◌, ◌%◌, ℕ, zero, suc, Bool, List, [], ◌∷◌, ◌++◌, length, slice_index_or}
use Rattle.std.specs.Prelude.{if◌then◌else◌, min}

-- the k-th column that column j of the row before feeds in row t, and the slot there
pub record IsOutput (r : Relation) (w t j k : ℕ) (found : Output) : Type 0 where
  pub column : found.column ≡ output r w t j k
  pub slot : found.slot ≡ rank (λ c. r t c (output r w t j k)) j

-- this many outputs, from a position on, are the first of column j of the row before row t, in rising order
pub record AreOutputs (r : Relation) (w t j : ℕ) (all : List Output) (start count : ℕ) : Type 0 where
  pub inside : start + count ≤ length all
  pub each : (k : ℕ) (d : Output) → k < count → IsOutput r w t j k (slice_index_or all (start + k) d)

-- the entry of task p: its column, how many inputs and outputs it has, and where its outputs are
pub record IsSpot (r : Relation) (w steps : ℕ) (all : List Output) (p : ℕ) (spot : Spot) : Type 0 where
  pub column : spot.column ≡ p % w
  pub arity : spot.arity ≡ inputs r w (p / w) (p % w)
  pub feeds : spot.feeds ≡ outputs r w steps (p / w) (p % w)
  pub own : AreOutputs r w (suc (p / w)) (p % w) all spot.start spot.feeds

-- the entries of the tasks below a number
pub record AreSpots (r : Relation) (w steps n : ℕ) (spots : List Spot) (all : List Output) : Type 0 where
  pub long : length spots ≡ n
  pub each : (p : ℕ) (d : Spot) → p < n → IsSpot r w steps all p (slice_index_or spots p d)

-- ---- row by row
-- v of each number below n that has f, in rising order
abbrev pub picked : {A : Type 0} → (ℕ → Bool) → (ℕ → A) → ℕ → List A
picked f v zero = []
picked f v (suc n) = if f n then picked f v n ++ v n ∷ [] else picked f v n

-- the first columns that column j of the row before row t feeds, of the columns below n, and the slot at each
abbrev pub outputs_to : Relation → ℕ → ℕ → ℕ → List Output
outputs_to r t j n = picked (λ i. r t j i) (λ i. record { column = i; slot = rank (λ c. r t c i) j }) n

-- How many of the columns before column j feed each column of row t, and of those below n column j as well; none more
-- than 16.
pub record AreSeen (r : Relation) (w t j n : ℕ) (seen : List ℕ) : Type 0 where
  pub long : length seen ≡ w
  pub done : (i : ℕ) → i < n → i < w → slice_index_or seen i 0 ≡ rank (λ c. r t c i) (suc j)
  pub left : (i : ℕ) → n ≤ i → i < w → slice_index_or seen i 0 ≡ rank (λ c. r t c i) j
  pub few : (i : ℕ) → i < w → slice_index_or seen i 0 ≤ 16

-- the outputs of the first n columns of all rows: those of column p % w of the row before row p / w + 1
pub record AreSpans (r : Relation) (w n : ℕ) (spans : List Span) (all : List Output) : Type 0 where
  pub long : length spans ≡ n
  pub whole : (p : ℕ) (d : Span) → p < n → (slice_index_or spans p d).count ≡ rank (λ i. r (suc (p / w)) (p % w) i) w
  pub each : (p : ℕ) (d : Span) → p < n
      → AreOutputs r w (suc (p / w)) (p % w) all (slice_index_or spans p d).start (slice_index_or spans p d).count

-- how many inputs the columns of the first rows have, from row 1 on, and none more than 16
pub record AreArities (r : Relation) (w n : ℕ) (arities : List ℕ) : Type 0 where
  pub long : length arities ≡ n
  pub each : (p : ℕ) → p < n → slice_index_or arities p 0 ≡ rank (λ j. r (suc (p / w)) j (p % w)) w
  pub few : (p : ℕ) → p < n → slice_index_or arities p 0 ≤ 16

-- What is computed of a grid's relation: the outputs and inputs of its rows for one period, or of all.
pub record AreKinds (r : Relation) (w steps period : ℕ) (kinds : Kinds) : Type 0 where
  pub sizes : AreSizes w steps
  pub some : 1 ≤ period
  pub spans_are : AreSpans r w (min period (steps - 1) * w) kinds.spans.items kinds.outputs.items
  pub arities_are : AreArities r w (min period (steps - 1) * w) kinds.arities.items
  pub again : ComesAgain r w steps period
