-- A list in blocks.
use Rattle.std.specs.Prelude.{◌<◌, ◌≤◌, ◌*◌, ℕ, List, take, drop}

-- block b of a list that is cut into blocks of this size
abbrev pub block_of : {A : Type 0} → ℕ → ℕ → List A → List A
block_of size b items = take size (drop (b * size) items)

-- `items` items are cut into `count` blocks of one size; the last block may be shorter, and none is empty
pub record AreBlocks (items size count : ℕ) : Type 0 where
  pub some : 1 ≤ size
  pub whole : items ≤ count * size
  pub none_empty : (b : ℕ) → b < count → b * size < items
