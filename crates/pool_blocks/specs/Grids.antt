-- A grid of cells, row by row, and its steps.
use Rattle.pool_blocks.specs.{Lists.{at, list_of}, Stencils.{BlockStep, Step}}
use Rattle.std.specs.{Int.int_div_euclid, Prelude.{◌≡◌, ◌≢◌, ◌<◌, ◌≤◌, ◌+◌, ◌-◌, ◌*◌, ◌%◌, ◌^◌, ◌⊎◌, ◌&&◌, ◌==◌, ◌++◌, ℕ, ℤ, pos, ◌+ℤ◌}}
use Rattle.std.specs.Prelude.{◌*ℤ◌, Bool, List, length, take, drop, if◌then◌else◌, nat_lt}
pub use Rattle.pool_blocks.specs.Stencils.{blocks_of}

-- a cell after a step: an eighth of its neighbours and four times itself, rounded down
abbrev pub mixed : ℤ → ℤ → ℤ → ℤ → ℤ → ℤ
mixed up left own right down = int_div_euclid (((up +ℤ left) +ℤ (pos 4 *ℤ own)) +ℤ (right +ℤ down)) (pos 8)

-- whether cell i of this many, in rows of this width, is not on the edge
abbrev pub inner : ℕ → ℕ → ℕ → Bool
inner width count i = nat_lt width (i + 1) && (nat_lt (i + width) count && (nat_lt 0 (i % width) && nat_lt (i % width + 1) width))

-- the cell at a position after a step: one on the edge stays
abbrev pub cell_after : ℕ → List ℤ → ℕ → ℤ
cell_after width cells i =
    if inner width (length cells) i then mixed (at cells (i - width)) (at cells (i - 1)) (at cells i) (at cells (i + 1))
    (at cells (i + width)) else at cells i

-- a grid in rows of this width after a step
abbrev pub relaxed : ℕ → Step
relaxed width cells = list_of (length cells) (cell_after width cells)

-- the last row of some cells
abbrev pub last_row : ℕ → List ℤ → List ℤ
last_row width cells = drop (length cells - width) cells

-- cells after a step, between some above and some below
abbrev pub swept_between : ℕ → List ℤ → List ℤ → List ℤ → List ℤ
swept_between width above own below = list_of (length own) (λ e. cell_after width ((above ++ own) ++ below) (length above + e))

-- a block of rows after a step, from the last row of the block above, itself and the first row of the block below
abbrev pub block_relaxed : ℕ → BlockStep
block_relaxed width above own below = swept_between width (last_row width above) own (take width below)

-- whether this many cells, and a block of this many, are whole rows
abbrev pub are_whole_rows : ℕ → ℕ → ℕ → Bool
are_whole_rows width count size = (count % width == 0) && (size % width == 0)

-- what a grid requires: a cell, rows that have some and are whole, blocks of some rows and fewer than 2 ^ 32 cells, and fewer
-- than 1,048,576 tasks, one for each block after each step
pub record IsGrid (count width rows steps : ℕ) : Type 0 where
  pub some_cells : 1 ≤ count
  pub some_width : 1 ≤ width
  pub some_rows : 1 ≤ rows
  pub small : rows * width < 2 ^ 32
  pub whole_rows : count % width ≡ 0
  pub few_tasks : (steps + 1) * blocks_of count (rows * width) < 2 ^ 20

-- why this many cells, in rows of this width and blocks of this many rows, are no grid for this many steps
abbrev pub IsNoGrid : ℕ → ℕ → ℕ → ℕ → Type 0
IsNoGrid count width rows steps =
    (count ≡ 0) ⊎ ((width ≡ 0)
    ⊎ ((rows ≡ 0) ⊎ ((2 ^ 32 ≤ rows * width) ⊎ ((count % width ≢ 0) ⊎ (2 ^ 20 ≤ (steps + 1) * blocks_of count (rows * width))))))
