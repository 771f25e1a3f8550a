-- The steps that a core has taken: what its contracts see, and how the list of them grows.
use Rattle.std.specs.Prelude.{ℕ, ◌≡◌, ◌-◌, ◌*◌, ◌/◌, ◌≤◌, List, [], ◌∷◌, Bool, IsTrue, IsFalse, if◌then◌else◌, length, min, reverse}
use Rattle.std.specs.Prelude.{vec_capacity}
use Rattle.tp_base.specs.declared.{Step.Step, limits.TheConstants.MAX_STEPS}
use Rattle.tp_core.specs.Capacity.{HasPieces, IsFrugal}
use Rattle.tp_core.specs.declared.{accepting.TheConstants.MAX_COUNT, taken.{TheConstants.PIECE, TakenSteps.TheInside.Inside}}
use Rattle.tp_wave.specs.{Generations.present, Sums.waves}

-- The steps, newest first, whether there is a list of them, and for how many more there is room. Without a list there always
-- is room for a piece.
pub record Taken : Type 0 where
  pub steps : List Step
  pub recorded : Bool
  pub room : ℕ

abbrev pub taken_of : Inside → Taken
taken_of t = record {
  steps = t.past.steps;
  recorded = t.recorded;
  room = if t.recorded then min (vec_capacity t.list / PIECE * PIECE) MAX_STEPS - length t.list.items else PIECE;
}

-- The steps are the same, and it is the same whether there is a list of them.
pub record IsSame (old new : Taken) : Type 0 where
  pub steps : new.steps ≡ old.steps
  pub recorded : new.recorded ≡ old.recorded

-- One more step was taken.
pub record IsPushed (old : Taken) (s : Step) (new : Taken) : Type 0 where
  pub steps : new.steps ≡ s ∷ old.steps
  pub recorded : new.recorded ≡ old.recorded

-- The list has the steps; or there is none, and the waves of the present generation are counted.
pub record IsList (t : Inside) : Type 0 where
  pub listed : IsTrue t.recorded → reverse t.list.items ≡ t.past.steps
  pub unlisted : IsFalse t.recorded → t.list.items ≡ []
  pub counted : IsFalse t.recorded → t.waves ≡ min (waves (present t.past.steps)) MAX_COUNT
  pub within : length t.list.items ≤ MAX_STEPS
  pub pieces : HasPieces (length t.list.items) (vec_capacity t.list)
  pub reserved : t.reserved ≤ vec_capacity t.list
  pub frugal : IsFrugal (length t.list.items) t.reserved (vec_capacity t.list)
