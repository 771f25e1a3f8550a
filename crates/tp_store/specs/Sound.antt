-- The invariant of the content of every store.
use Rattle.std.specs.{Option.option_map, Prelude.{◌≡◌, ℕ, ◌<◌, ◌≤◌, ◌==◌, ◌&&◌, Bool, false, [], length, count_by, slice_index_or, is_none}}
use Rattle.std.specs.Prelude.{unwrap_or, MatchBool, MatchOption, if◌then◌else◌}
use Rattle.tp_base.specs.declared.{ids.TaskId.TaskId, limits.TheConstants.{CLASSES, MAX_INPUTS}}
use Rattle.tp_store.specs.{Content.{Task, Content, task_of, is_ready, is_done, has_begun}, declared.life.Life.{Life, TheVariants.Waiting}}

-- how many inputs a task of this life lacks
abbrev pub lacking : Life → ℕ
lacking (Waiting k) = k
lacking _ = 0

-- a waiting task lacks an input
abbrev pub LacksSome : Life → Type 0
LacksSome (Waiting k) = 0 < k
LacksSome _ = Unit {0}

abbrev pub is_task : TaskId → TaskId → Bool
is_task t u = u.0 == t.0

module _ {V : Type 0} where
  -- the number of empty slots is what the life says, and a task that has begun has no slots
  pub record IsTask (x : Task V) : Type 0 where
    pub arity : x.arity ≤ MAX_INPUTS
    pub class : x.class < CLASSES
    pub lacks : LacksSome x.life
    pub slots : MatchBool (has_begun x.life) (x.values ≡ []) ((length x.values ≡ x.arity) × (count_by is_none x.values ≡ lacking x.life))

  -- how often the task is in the queue of a class
  abbrev pub times_ready : Content V → ℕ → TaskId → ℕ
  times_ready c class t = count_by (is_task t) (slice_index_or c.ready class [])

  -- how many results it has
  abbrev pub times_done : Content V → TaskId → ℕ
  times_done c t = count_by (λ r. is_task t r.0) c.results

  -- whether the task passes this test; an unknown task does not
  abbrev pub passes : Content V → TaskId → (Task V → Bool) → Bool
  passes c t test = unwrap_or (option_map test (task_of c t)) false

  -- a task is in the queues exactly while it is ready: once, in that of its class; it has one result if it is done, and else none
  pub record IsSound (c : Content V) : Type 0 where
    pub four : length c.ready ≡ 4
    pub tasks : (t : TaskId) → MatchOption (task_of c t) (Unit {0}) IsTask
    pub ready : (class : ℕ) (t : TaskId)
        → times_ready c class t ≡ (if passes c t (λ x. is_ready x.life && (x.class == class)) then 1 else 0)
    pub done : (t : TaskId) → times_done c t ≡ (if passes c t (λ x. is_done x.life) then 1 else 0)
