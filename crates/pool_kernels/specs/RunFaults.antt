-- Why there is no table of a grid, and why a run of one has no row, by cases of the returned fault.
use Rattle.pool_kernels.specs.{Events.grid_events, Grids.{IsNarrow, Relation, inputs}, Kernels.{Rule, kernel_graph}}
use Rattle.pool_kernels.specs.declared.fault.{GridFault.GridFault, RunFault.{RunFault, TheVariants.{Run, Unmade}}, TableFault.TableFault}
use Rattle.pool_kernels.specs.declared.fault.TableFault.TheVariants.{Empty, NoMemory, TooManyEvents, TooManyInputs}
use Rattle.std.specs.Prelude.{◌≡◌, ◌<◌, ◌≤◌, ◌⊎◌, ℕ, ⊤}
use Rattle.tp_base.specs.declared.{limits.TheConstants.MAX_STEPS, refusal.Refusal.Refusal}
use Rattle.tp_graph.specs.Graphs.{TaskGraph}
use Rattle.tp_work.specs.Outcomes.{IsFault, IsOutcome}
use Rattle.pool_kernels.specs.declared.fault.GridFault.TheVariants as grid
use Rattle.tp_base.specs.declared.refusal.Refusal.TheVariants as refusal

-- a task of the grid has more than 16 inputs
pub record IsWide (r : Relation) (w steps : ℕ) : Type 0 where
  pub row : ℕ
  pub column : ℕ
  pub known : (row < steps) × (column < w)
  pub many : 16 < inputs r w row column

-- There is none of these faults: there is a task, none has more than 16 inputs, and the events are within the limit.
pub record HasNoFault (r : Relation) (w steps : ℕ) : Type 0 where
  pub some : (1 ≤ w) × (1 ≤ steps)
  pub narrow : IsNarrow r w steps
  pub few : grid_events r w steps ≤ MAX_STEPS

-- There is no task, a task has more than 16 inputs, or the events exceed the limit; or an allocation failed.
abbrev pub IsTableFault : Relation → ℕ → ℕ → TableFault → Type 0
IsTableFault r w steps Empty = (w ≡ 0) ⊎ (steps ≡ 0)
IsTableFault r w steps TooManyInputs = IsWide r w steps
IsTableFault r w steps TooManyEvents = MAX_STEPS < grid_events r w steps
IsTableFault r w steps NoMemory = ⊤

-- the refusal of a fault: that of the pool's own fault is its own
abbrev pub refusal_of : RunFault → Refusal
refusal_of (Run fault) = fault.refusal
refusal_of (Unmade outcome) = refusal.NoMemory

-- At n nodes, with this many workers at each, the graph's pool has exactly the fault, or exactly the outcome, that is
-- returned.
abbrev pub IsRunFault : ℕ → ℕ → TaskGraph → RunFault → Type 0
IsRunFault n workers g (Run fault) = IsFault n g fault
IsRunFault n workers g (Unmade outcome) = IsOutcome n workers g outcome

-- At n nodes, with this many workers at each: there is no table of the grid, or the pool of its graph has exactly the
-- fault that is returned.
abbrev pub IsGridFault : ℕ → ℕ → Relation → Rule → ℕ → ℕ → GridFault → Type 0
IsGridFault n workers r rule w steps (grid.Table fault) = IsTableFault r w steps fault
IsGridFault n workers r rule w steps (grid.Run fault) = IsRunFault n workers (kernel_graph r rule w steps) fault
