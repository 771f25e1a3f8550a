-- The stages of a task's life in the events.
use Rattle.std.specs.{List.All, Prelude.{ℕ, zero, suc, ◌==◌, ◌≡◌, List, [], ◌∷◌, length, map, reverse, Option, Some, None, IsFalse}}
use Rattle.std.specs.Prelude.{if◌then◌else◌, nat_lt, slice_index_or}
use Rattle.tp_base.specs.declared.step.Step.{Step, TheVariants.{Insert, Begin}}
use Rattle.{tp_base.specs.declared.step.Step.TheVariants.Done, tp_wave.specs.Generations.{ended_generations, present_events}}
use Rattle.tp_wave.specs.{Machine.{History, steps_of}, Steps.{any, count, is_reopen, is_send}}

-- The stages of a life in order: a task is inserted (0), begins (1) and is done (2). A step is one of them for its
-- task, or none.
abbrev pub moment_of : Step → Option (ℕ × ℕ)
moment_of (Insert i t k) = Some (t.0, 0)
moment_of (Begin t) = Some (t.0, 1)
moment_of (Done t) = Some (t.0, 2)
moment_of _ = None

-- the stages of task t, if this one comes after those
abbrev pub with_moment : ℕ → Option (ℕ × ℕ) → List ℕ → List ℕ
with_moment t None past = past
with_moment t (Some m) past = if m.0 == t then m.1 ∷ past else past

-- the stages of task t, newest first
abbrev pub moments : ℕ → List Step → List ℕ
moments t [] = []
moments t (s ∷ past) = with_moment t (moment_of s) (moments t past)

-- the stages of task t over its life, if there are this many tasks
abbrev pub life : ℕ → ℕ → List ℕ
life tasks t = if nat_lt t tasks then 2 ∷ 1 ∷ 0 ∷ [] else []

-- Each task below a number was inserted, then began, and then was done, each once; no other task ever was; and nothing
-- was reopened.
pub record LivesOnce (tasks : ℕ) (steps : List Step) : Type 0 where
  pub each : (t : ℕ) → moments t steps ≡ life tasks t
  pub one_generation : IsFalse (any is_reopen steps)

-- the events of each generation, newest first: of the present one, and of those that ended
abbrev pub generations : History → List History
generations h = present_events h ∷ ended_generations h

-- Each task below a number lived once in each generation.
abbrev pub LivesInEach : ℕ → History → Type 0
LivesInEach tasks h = All (λ g. LivesOnce tasks (steps_of g)) (generations h)

-- the number of messages sent
abbrev pub sent_in : History → ℕ
sent_in h = count is_send (steps_of h)

-- the first stages of a life, this many, newest first
abbrev pub first_moments : ℕ → List ℕ
first_moments zero = []
first_moments (suc k) = k ∷ first_moments k

-- how many stages of its life a task has had
abbrev pub stage : List ℕ → ℕ → ℕ
stage stages t = slice_index_or stages t 0

-- Each task has had this many stages, the first ones.
abbrev pub AreStages : List Step → List ℕ → Type 0
AreStages steps stages = (t : ℕ) → moments t steps ≡ first_moments (stage stages t)

-- All events were followed: each task has had these first stages of its life in the present generation, and lived once
-- in each that ended. The messages of those are listed, oldest first, and separately those of the present one.
pub record IsFollowed (h : History) (stages sent : List ℕ) (messages : ℕ) : Type 0 where
  pub present : AreStages (steps_of (present_events h)) stages
  pub ended : All (λ g. LivesOnce (length stages) (steps_of g)) (ended_generations h)
  pub sent_before : sent ≡ reverse (map sent_in (ended_generations h))
  pub sent_now : messages ≡ sent_in (present_events h)
