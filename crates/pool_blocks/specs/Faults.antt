-- Why a run over borrowed cells has no result, by cases of the returned fault.
use Rattle.pool_blocks.specs.{RunEvents.TakeNoStep, Stencils.{BlockStep, Step, after, block_graph, blocks_of}}
use Rattle.pool_blocks.specs.declared.fault.LentFault.{LentFault, TheVariants.{BadInput, Run, Unmade}}
use Rattle.std.specs.Prelude.{ℕ, ℤ, Bool, false, ◌≡◌, ◌≤◌, ◌+◌, ◌⊎◌, List, length}
use Rattle.tp_base.specs.declared.refusal.Refusal.{Refusal, TheVariants.{BadSpec, NoMemory}}
use Rattle.tp_graph.specs.Graphs.{TaskGraph}
use Rattle.tp_work.specs.Outcomes.{IsFault, IsOutcome}

-- the refusal of a fault: that of the pool's own fault is its own
abbrev pub refusal_of : LentFault → Refusal
refusal_of BadInput = BadSpec
refusal_of (Run fault) = fault.refusal
refusal_of (Unmade outcome) = NoMemory

-- At n nodes, with this many workers at each: the input is at fault, or the graph's pool has exactly the fault, or
-- exactly the outcome, that is returned.
abbrev pub IsLentFault : ℕ → ℕ → Type 0 → TaskGraph → LentFault → Type 0
IsLentFault n workers IsAtFault g BadInput = IsAtFault
IsLentFault n workers IsAtFault g (Run fault) = IsFault n g fault
IsLentFault n workers IsAtFault g (Unmade outcome) = IsOutcome n workers g outcome

-- This holds for the pool of a part of the steps, one or more, over the cells that the steps before it gave.
abbrev pub IsOfPart : Step → BlockStep → List ℤ → ℕ → ℕ → (TaskGraph → Type 0) → Type 0
IsOfPart step next cells size steps Holds = (done : ℕ) × (part : ℕ) × (1 ≤ part) × (done + part ≤ steps)
    × Holds (block_graph next (after step done cells) (blocks_of (length cells) size) size part)

-- the cells take no step, or, after some of the steps, the pool of some of the others has no result
abbrev pub IsPartFault : ℕ → ℕ → (ℕ → ℕ → Bool) → Step → BlockStep → List ℤ → ℕ → ℕ → LentFault → Type 0
IsPartFault n workers takes step next cells size steps BadInput =
    (takes (length cells) size ≡ false) ⊎ TakeNoStep (length cells) size n
IsPartFault n workers takes step next cells size steps (Run fault) =
    IsOfPart step next cells size steps (λ g. IsFault n g fault)
IsPartFault n workers takes step next cells size steps (Unmade outcome) =
    IsOfPart step next cells size steps (λ g. IsOutcome n workers g outcome)
