-- What is left in a pool: the tasks that are not done, by their numbers.
use Rattle.std.specs.{List.find, Option.option_map, Prelude.{ℕ, ◌==◌, ◌<◌, ◌≤◌, Bool, false, not, IsTrue, IsFalse, Option, Some, None}}
use Rattle.tp_base.specs.declared.{NodeId.NodeId, TaskId.TaskId}
use Rattle.tp_core.specs.{World.{World, life_of, is_done}, declared.life.Life.Life}

-- the home and the life of a task, if it was inserted
abbrev pub home_and_life : ℕ → World → Option (NodeId × Life)
home_and_life t w = option_map (λ x. (record { 0 = x.home }, x.life)) (find (λ x. x.number == t) w.tasks)

abbrev pub is_unfinished : Option Life → Bool
is_unfinished None = false
is_unfinished (Some l) = not (is_done l)

-- The task was inserted and is not done.
abbrev pub is_left : ℕ → World → Bool
is_left t w = is_unfinished (life_of t w)

-- No task with a number of this range is left.
abbrev pub AreDone : (from end : ℕ) → World → Type 0
AreDone from end w = (t : ℕ) → from ≤ t → t < end → IsFalse (is_left t w)

-- The result is the lowest number of this range whose task is left, or there is none.
abbrev pub IsNextLeft : (from end : ℕ) → World → Option TaskId → Type 0
IsNextLeft from end w None = AreDone from end w
IsNextLeft from end w (Some t) = (from ≤ t.0) × (t.0 < end) × IsTrue (is_left t.0 w) × AreDone from t.0 w
