-- A run over borrowed cells took place: a pool of threads ended.
use Rattle.pool_blocks.specs.Stencils.{BlockStep, Step, after, block_graph, blocks_of}
use Rattle.std.specs.Prelude.{ℕ, ℤ, ◌≡◌, ◌≤◌, ◌+◌, ◌⊎◌, List, length}
use Rattle.tp_graph.specs.Graphs.{TaskGraph}
use Rattle.tp_work.specs.{Outcomes.IsOutcome, declared.config.Outcome.Outcome}

-- on n nodes, with this many workers at each, the graph's pool has an outcome
abbrev pub HasRun : ℕ → ℕ → TaskGraph → Type 0
HasRun n workers g = (o : Outcome) × IsOutcome n workers g o

-- There is no step; or the pool of the last of the steps, one or more, over the cells that those before gave, has an
-- outcome.
abbrev pub HasRunInParts : ℕ → ℕ → Step → BlockStep → List ℤ → ℕ → ℕ → Type 0
HasRunInParts n workers step next cells size steps =
    (steps ≡ 0) ⊎ ((done : ℕ) × (part : ℕ) × (1 ≤ part) × (done + part ≡ steps)
    × HasRun n workers (block_graph next (after step done cells) (blocks_of (length cells) size) size part))
