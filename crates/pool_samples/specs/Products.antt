-- The product of two matrices in tiles: its entries, and its graph.
use Rattle.std.{proofs.Props.props, specs.Prelude.{◌≤◌, ◌+◌, ◌-◌, ◌*◌, ◌/◌, ◌%◌, ℕ, zero, suc, ℤ, pos, ◌+ℤ◌, ◌-ℤ◌, ◌*ℤ◌, List, [], ◌∷◌}}
use Rattle.std.specs.Prelude.{length, slice_index_or, true, Option, Some, None, if◌then◌else◌, nat_lt, nat_eq}
use Rattle.tp_graph.specs.{Graphs.TaskGraph, Values.{then_some, fitting}}

-- matrices of this many tiles a side, each tile of this many numbers a side
pub record IsProduct (tiles : ℕ) (side : ℕ) (seed : ℕ) : Type 0 where
  pub some_tiles : 1 ≤ tiles
  pub some_side : 1 ≤ side
  pub few_tiles : tiles ≤ 64
  pub small : tiles * side ≤ 64
  pub seed_small : seed ≤ 9999

pub IsProduct-prop : (tiles side seed : ℕ) → IsProp (IsProduct tiles side seed)
IsProduct-prop tiles side seed = hlevel props

-- the entries of the two matrices
abbrev pub left_entry : ℕ → ℕ → ℕ → ℤ
left_entry seed x z = pos ((7 * x + 3 * z + seed) % 21) -ℤ pos 10

abbrev pub right_entry : ℕ → ℕ → ℕ → ℤ
right_entry seed z y = pos ((5 * z + 2 * y + seed) % 21) -ℤ pos 10

abbrev pub term : ℕ → ℕ → ℕ → ℕ → ℤ
term seed x y z = left_entry seed x z *ℤ right_entry seed z y

-- the sum of f over this many numbers from a start on
abbrev pub sum_from : ℕ → ℕ → (ℕ → ℤ) → ℤ
sum_from start zero f = pos 0
sum_from start (suc count) f = sum_from start count f +ℤ f (start + count)

-- f 0, f 1 and so on, up to this count
abbrev pub list_of : {A : Type 0} → ℕ → (ℕ → A) → List A
list_of zero f = []
list_of (suc count) f = f 0 ∷ list_of count (λ e. f (suc e))

-- the tile (i, j) of the product of column k of tiles on the left and row k on the right, row by row
abbrev pub tile : ℕ → ℕ → ℕ → ℕ → ℕ → List ℤ
tile side seed i j k = list_of (side * side) (λ e. sum_from (k * side) side (term seed (i * side + e / side) (j * side + e % side)))

-- the sum of the numbers at a position of two lists
abbrev pub place_sum : List ℤ → List ℤ → ℕ → ℤ
place_sum a b e = slice_index_or a e (pos 0) +ℤ slice_index_or b e (pos 0)

-- two lists added position by position
abbrev pub add_lists : List ℤ → List ℤ → List ℤ
add_lists [] ys = []
add_lists (x ∷ xs) [] = []
add_lists (x ∷ xs) (y ∷ ys) = (x +ℤ y) ∷ add_lists xs ys

-- a tile, and the input, if there is one, added to it position by position
abbrev pub tile_and_input : ℕ → List ℤ → List (List ℤ) → Option (List ℤ)
tile_and_input size made [] = Some made
tile_and_input size made (input ∷ []) = if nat_eq (length input) size then Some (add_lists input made) else None
tile_and_input size made _ = None

-- two lists of the same length, added position by position; none if a sum does not fit 64 bits
abbrev pub added : List ℤ → List ℤ → Option (List ℤ)
added a b = then_some (tile_and_input (length b) b (a ∷ [])) fitting

-- Task t is (i, j, k) with t = (i * tiles + j) * tiles + k. It adds the k-th products to tile (i, j).
unfoldable pub product_graph : ℕ → ℕ → ℕ → TaskGraph
product_graph tiles side seed = record {
  tasks = tiles * tiles * tiles;
  arity = λ t. if nat_eq (t % tiles) 0 then 0 else 1;
  class = λ t. if nat_eq (t % tiles) 0 then 1 else 0;
  feeds = λ t. if nat_lt (t % tiles + 1) tiles then 1 else 0;
  target = λ t k. t + 1;
  slot = λ t k. 0;
  source = λ t s. t - 1;
  turn = λ t s. 0;
  home = λ t m. (t / tiles + t % tiles) % m;
  rule = λ t inputs. tile_and_input (side * side) (tile side seed (t / tiles / tiles) (t / tiles % tiles) (t % tiles)) inputs;
  keeps = λ t. true;
}

-- an entry of the product: one sum over all z
abbrev pub entry : ℕ → ℕ → ℕ → ℕ → ℤ
entry order seed x y = sum_from 0 order (term seed x y)
