-- How a store keeps the tasks that are not done.
use Rattle.smallvec.specs.SmallVec.{SmallVec, small_vec_len, HasRoomFor}
use Rattle.std.specs.Prelude.{◌≡◌, ℕ, ◌+◌, Bool, true, false, List, [], ◌∷◌, take, Option, None, Some, if◌then◌else◌}
use Rattle.tp_base.specs.declared.ids.TaskId.{TaskId}
use Rattle.tp_store.specs.{Content.{Task, has_begun}, Sound.{IsTask, lacking}, declared.life.Life.Life}

-- a task's number with its state
pub record Item (V : Type 0) : Type 0 where
  pub number : TaskId
  pub task : Task V

-- how many flags are set
abbrev pub count_set : List Bool → ℕ
count_set [] = 0
count_set (false ∷ flags) = count_set flags
count_set (true ∷ flags) = count_set flags + 1

module _ {V : Type 0} where
  -- the value of each slot, if the flags say which are filled and the values are in slot order
  abbrev pub spread : List Bool → List V → List (Option V)
  spread [] values = []
  spread (false ∷ filled) values = None ∷ spread filled values
  spread (true ∷ filled) [] = None ∷ spread filled []
  spread (true ∷ filled) (v ∷ values) = Some v ∷ spread filled values

  abbrev pub slots_of : Life → ℕ → List Bool → List V → List (Option V)
  slots_of life arity filled values = if has_begun life then [] else spread (take arity filled) values

  -- there is a value for each filled slot, and room for the missing ones
  pub record IsFilled (x : Task V) (filled : List Bool) (values : SmallVec V) : Type 0 where
    pub task : IsTask x
    pub each : count_set (take x.arity filled) ≡ small_vec_len values
    pub room : HasRoomFor values (lacking x.life)
