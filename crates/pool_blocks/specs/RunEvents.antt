-- Which cells take no step, and how many steps of the others fit in one run, by the events of a step.
use Rattle.std.specs.Prelude.{ℕ, ◌≡◌, ◌-◌, ◌*◌, ◌/◌, ◌<◌, ◌≤◌, ◌⊎◌, max}
use Rattle.tp_base.specs.declared.limits.TheConstants.{MAX_STEPS}
use Rattle.pool_blocks.specs.Stencils.{blocks_of}
pub use Rattle.pool_blocks.specs.Events.{all_events, step_events}

-- This many cells, in blocks of this size at this many nodes, take no step: there is none, a block is empty, or the
-- events of a single step exceed the limit.
abbrev pub TakeNoStep : ℕ → ℕ → ℕ → Type 0
TakeNoStep cells size nodes = (cells ≡ 0) ⊎ ((size ≡ 0) ⊎ (MAX_STEPS < all_events (blocks_of cells size) nodes 1))

-- as many steps as fit in 1,000,000 events, but at least one
abbrev pub planned : ℕ → ℕ → ℕ
planned blocks nodes = max ((1000000 - 3 * blocks) / step_events blocks nodes) 1

-- `cells` cells, in blocks of `size` at `nodes` nodes, take `steps` steps in one run
pub record TakeSteps (cells size nodes steps : ℕ) : Type 0 where
  pub some_cells : 1 ≤ cells
  pub some_size : 1 ≤ size
  pub few_events : all_events (blocks_of cells size) nodes steps ≤ MAX_STEPS
  pub all_planned : steps ≡ planned (blocks_of cells size) nodes
