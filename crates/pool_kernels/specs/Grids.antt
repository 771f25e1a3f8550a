-- A grid of tasks: rows of w columns, in which a relation says which columns of a row feed which of the next.
use Rattle.std.specs.Prelude.{◌≡◌, ◌<◌, ◌≤◌, ◌+◌, ◌-◌, ◌*◌, ◌/◌, ◌%◌, ◌^◌, ℕ, zero, suc, ℤ, Bool, List, Option, if◌then◌else◌}
use Rattle.std.specs.Prelude.{nat_le, nat_lt}
use Rattle.tp_graph.specs.Graphs.{TaskGraph}
use Rattle.pool_kernels.specs.Ranks.{rank, nth}

-- whether column j of the row before feeds column i of row t: r t j i
abbrev pub Relation : Type 0
Relation = ℕ → ℕ → ℕ → Bool

-- this many columns, and this many rows, are one or more and below 1,048,576
abbrev pub AreSizes : ℕ → ℕ → Type 0
AreSizes w rows = (1 ≤ w) × (w < 2 ^ 20) × (1 ≤ rows) × (rows < 2 ^ 20)

-- The relation of rows of w columns repeats after this many rows, as long as there are rows.
abbrev pub ComesAgain : Relation → ℕ → ℕ → ℕ → Type 0
ComesAgain r w steps period = (t j i : ℕ) → 1 ≤ t → t + period < steps → j < w → i < w → r (t + period) j i ≡ r t j i

-- how many inputs a column of a row has, and how many columns of the next row it feeds
abbrev pub inputs : Relation → ℕ → ℕ → ℕ → ℕ
inputs r w zero i = 0
inputs r w (suc q) i = rank (λ j. r (suc q) j i) w

abbrev pub outputs : Relation → ℕ → ℕ → ℕ → ℕ → ℕ
outputs r w steps q j = if nat_lt (suc q) steps then rank (λ i. r (suc q) j i) w else 0

-- the s-th column that feeds a column, and the k-th that a column feeds, in rising order
abbrev pub input : Relation → ℕ → ℕ → ℕ → ℕ → ℕ
input r w t i s = nth (λ j. r t j i) w s

abbrev pub output : Relation → ℕ → ℕ → ℕ → ℕ → ℕ
output r w t j k = nth (λ i. r t j i) w k

abbrev pub source : Relation → ℕ → ℕ → ℕ → ℕ → ℕ
source r w zero i s = 0
source r w (suc q) i s = q * w + input r w (suc q) i s

abbrev pub turn : Relation → ℕ → ℕ → ℕ → ℕ → ℕ
turn r w t i s = rank (λ c. r t (input r w t i s) c) i

abbrev pub target : Relation → ℕ → ℕ → ℕ → ℕ → ℕ
target r w q j k = suc q * w + output r w (suc q) j k

abbrev pub slot : Relation → ℕ → ℕ → ℕ → ℕ → ℕ
slot r w q j k = rank (λ c. r (suc q) c (output r w (suc q) j k)) j

-- Tasks are numbered row by row; a node has a range of columns. The last row is kept.
unfoldable pub grid_graph : Relation → ℕ → ℕ → (ℕ → List (List ℤ) → Option (List ℤ)) → TaskGraph
grid_graph r w steps rule = record {
  tasks = steps * w;
  arity = λ t. inputs r w (t / w) (t % w);
  class = λ t. 0;
  feeds = λ p. outputs r w steps (p / w) (p % w);
  target = λ p k. target r w (p / w) (p % w) k;
  slot = λ p k. slot r w (p / w) (p % w) k;
  source = λ t s. source r w (t / w) (t % w) s;
  turn = λ t s. turn r w (t / w) (t % w) s;
  home = λ t m. (t % w) * m / w;
  rule = rule;
  keeps = λ t. nat_le ((steps - 1) * w) t;
}

-- no task of the grid has more than 16 inputs
abbrev pub IsNarrow : Relation → ℕ → ℕ → Type 0
IsNarrow r w steps = (t i : ℕ) → t < steps → i < w → inputs r w t i ≤ 16
