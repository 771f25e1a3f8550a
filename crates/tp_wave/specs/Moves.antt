-- The postconditions of a call for the step that it makes. They hold for every list of steps, newest first, that led
-- the waves to their present state.
use Rattle.std.specs.Prelude.{ℕ, ◌≡◌, Bool, List, ◌∷◌, Option}
use Rattle.tp_base.specs.{Checks.first_refusal, declared.{Refusal.Refusal, Step.Step}}
use Rattle.tp_wave.specs.{ControlChecks.{control_refusal, wave_checks}, Wave.{Follows, Stands}, declared.wave.Wave.Wave}

-- If each node gave what it had counted, the step is refused exactly as the table of checks requires
-- (`control_refusal`).
abbrev pub IsExact : Step → Wave → Option Refusal → Type 0
IsExact s old refused = (n : ℕ) (steps : List Step) → Follows n steps old → refused ≡ control_refusal n steps s

-- The waves then follow the steps with this one added.
abbrev pub FollowsOn : Step → Wave → Wave → Type 0
FollowsOn s old new = (n : ℕ) (steps : List Step) → Follows n steps old → Follows n (s ∷ steps) new

-- Whatever the nodes gave, the step is refused exactly as the table requires, given whether the end was judged.
abbrev pub IsByTable : Step → Wave → Option Refusal → Type 0
IsByTable s old refused =
    (n : ℕ) (ended : Bool) (steps : List Step) → Stands n ended steps old → refused ≡ first_refusal (wave_checks n ended steps s)

-- The waves are then in the state to which the step leads.
abbrev pub StandsOn : Step → Wave → Wave → Type 0
StandsOn s old new = (n : ℕ) (ended : Bool) (steps : List Step) → Stands n ended steps old → Stands n ended (s ∷ steps) new
