-- A rod of cells, and its steps.
use Rattle.pool_blocks.specs.Stencils.{BlockStep, Step}
use Rattle.std.specs.{Int.RustNames.int_div, Prelude.{◌≡◌, ◌<◌, ◌≤◌, ◌+◌, ◌*◌, ◌^◌, ◌⊎◌, ℕ, ℤ, pos, ◌+ℤ◌, List, [], ◌∷◌}}
pub use Rattle.pool_blocks.specs.Stencils.{LacksBlock, blocks_of}

-- a third of a number, cut towards 0
abbrev pub third : ℤ → ℤ
third z = int_div z (pos 3)

-- a cell after a step: the mean of itself and its neighbours, by thirds
abbrev pub mixed : ℤ → ℤ → ℤ → ℤ
mixed left own right = (third left +ℤ third own) +ℤ third right

abbrev pub first_or : ℤ → List ℤ → ℤ
first_or d [] = d
first_or d (x ∷ xs) = x

abbrev pub last_or : ℤ → List ℤ → ℤ
last_or d [] = d
last_or d (x ∷ xs) = last_or x xs

-- cells after a step, between a number on the left and one on the right
abbrev pub sweep : ℤ → List ℤ → ℤ → List ℤ
sweep left [] right = []
sweep left (x ∷ xs) right = mixed left x (first_or right xs) ∷ sweep x xs right

-- a rod of cells after a step; both ends lie at 0
abbrev pub heated : Step
heated cells = sweep (pos 0) cells (pos 0)

-- a block of the rod after a step, from itself and its neighbours
abbrev pub block_heated : BlockStep
block_heated before own behind = sweep (last_or (pos 0) before) own (first_or (pos 0) behind)

-- what a rod requires: a cell, blocks that have some, and fewer than 1,048,576 tasks, one for each block after each step
pub record IsRod (count size steps : ℕ) : Type 0 where
  pub some_cells : 1 ≤ count
  pub some_size : 1 ≤ size
  pub few_tasks : (steps + 1) * blocks_of count size < 2 ^ 20

-- why this many cells, in blocks of this size, are no rod for this many steps
abbrev pub IsNoRod : ℕ → ℕ → ℕ → Type 0
IsNoRod count size steps = (count ≡ 0) ⊎ ((size ≡ 0) ⊎ (2 ^ 20 ≤ (steps + 1) * blocks_of count size))
