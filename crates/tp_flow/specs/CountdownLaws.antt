-- Runs of a graph in which threads count the missing inputs of each task: tasks are handed over once, after their inputs, and none is
-- forgotten; and the chains of edges that `link` writes have each edge that reads a task.
use Rattle.std.specs.Prelude.{ℕ, zero, suc, ◌+◌, ◌-◌, ◌≡◌, ◌<◌, ◌≤◌, ◌==◌, ◌&&◌, ◌||◌, List, [], ◌∷◌, Bool, false, length, nat_le, nat_lt}
use Rattle.std.specs.{List.slice_index, Prelude.{if◌then◌else◌, IsTrue, IsFalse}}
use Rattle.tp_flow.specs.Countdown.{Graph, Links, tasks_of, start_of, end_of, source_of, IsGraph, AreLinks, after_arrival, is_last}
use Rattle.tp_flow.specs.{Description.Has, declared.limits.TheConstants.NO_INPUT}

-- ---- runs
-- A task begins, or is done; or an input of a task arrives: a thread calls `arrive` for the task that reads at this edge.
pub data Step : Type 0 where
  Begun : (task : ℕ) → Step
  Done : (task : ℕ) → Step
  Arrived : (edge : ℕ) → Step

-- how many of the steps pass the test
abbrev pub times : (Step → Bool) → List Step → ℕ
times test [] = 0
times test (s ∷ past) = if test s then times test past + 1 else times test past

abbrev pub begins : ℕ → Step → Bool
begins t (Begun s) = s == t
begins t other = false

abbrev pub ends : ℕ → Step → Bool
ends t (Done s) = s == t
ends t other = false

-- task t reads at edge e
abbrev pub is_edge_of : Graph → ℕ → ℕ → Bool
is_edge_of g t e = nat_le (start_of g t) e && nat_lt e (end_of g t)

-- an input of task t arrives
abbrev pub arrives : Graph → ℕ → Step → Bool
arrives g t (Arrived e) = is_edge_of g t e
arrives g t other = false

-- an input has arrived at this edge
abbrev pub has_arrived : List Step → ℕ → Bool
has_arrived [] e = false
has_arrived (Arrived f ∷ past) e = (f == e) || has_arrived past e
has_arrived (s ∷ past) e = has_arrived past e

-- the number of missing inputs of task t after these steps, the newest first
abbrev pub missing_after : Graph → ℕ → List Step → ℕ
missing_after g t [] = end_of g t - start_of g t
missing_after g t (s ∷ past) = if arrives g t s then after_arrival (missing_after g t past) else missing_after g t past

-- how often task t was handed over: at the start if it has no input, and at each arrival for which `arrive` returned true
abbrev pub times_handed : Graph → ℕ → List Step → ℕ
times_handed g t [] = if (end_of g t - start_of g t) == 0 then 1 else 0
times_handed g t (s ∷ past) =
    if arrives g t s && is_last (missing_after g t past) then times_handed g t past + 1 else times_handed g t past

-- A task begins at most as often as it was handed over, and is done at most as often as it began. An input arrives once, after the task
-- that makes it is done.
abbrev pub IsAllowed : Graph → List Step → Step → Type 0
IsAllowed g past (Begun t) = times (begins t) past < times_handed g t past
IsAllowed g past (Done t) = times (ends t) past < times (begins t) past
IsAllowed g past (Arrived e) = Has past (Done (source_of g e)) × IsFalse (has_arrived past e)

-- Each step is allowed after those before it. The newest step is first.
abbrev pub IsRun : Graph → List Step → Type 0
IsRun g [] = Unit {0}
IsRun g (s ∷ past) = IsAllowed g past s × IsRun g past

-- ---- laws
-- When a task begins, each task that it reads is done.
unfoldable pub ReadyAfterInputs : Type 0
ReadyAfterInputs = (g : Graph) (past : List Step) (t e : ℕ) → IsRun g (Begun t ∷ past) → IsTrue (is_edge_of g t e)
    → Has past (Done (source_of g e))

-- A task is handed over at most once, and so begins at most once; its number and its arrivals together are its inputs.
pub record IsReadyOnce (g : Graph) (run : List Step) (t : ℕ) : Type 0 where
  pub handed : times_handed g t run ≤ 1
  pub begun : times (begins t) run ≤ 1
  pub missing : missing_after g t run + times (arrives g t) run ≡ end_of g t - start_of g t

unfoldable pub ReadyOnce : Type 0
ReadyOnce = (g : Graph) (run : List Step) (t : ℕ) → IsRun g run → IsReadyOnce g run t

-- Nothing is left to do: what was handed over is done, and what a done task made has arrived.
pub record IsOver (g : Graph) (run : List Step) : Type 0 where
  pub done : (t : ℕ) → t < tasks_of g → 0 < times_handed g t run → Has run (Done t)
  pub arrived : (e : ℕ) → e < length g.inputs → Has run (Done (source_of g e)) → IsTrue (has_arrived run e)

-- Then every task is done.
unfoldable pub AllAreReady : Type 0
AllAreReady = (g : Graph) (run : List Step) (t : ℕ) → IsGraph g → IsRun g run → IsOver g run → t < tasks_of g → Has run (Done t)

-- ---- chains
-- the edges below n at which task i is read, the greatest first
abbrev pub edges_below : List ℕ → ℕ → ℕ → List ℕ
edges_below inputs i zero = []
edges_below inputs i (suc e) = if slice_index inputs e == i then e ∷ edges_below inputs i e else edges_below inputs i e

-- These are `first`, older[first] and so on, up to NO_INPUT.
abbrev pub IsChain : List ℕ → ℕ → List ℕ → Type 0
IsChain older first [] = first ≡ NO_INPUT
IsChain older first (e ∷ es) = (first ≡ e) × (e ≡ NO_INPUT → ⊥) × IsChain older (slice_index older e) es

-- The chain of a task has the edges at which it is read, each once, and no other.
unfoldable pub ChainsAreReaders : Type 0
ChainsAreReaders = (g : Graph) (l : Links) (i : ℕ) → AreLinks g l → i < tasks_of g
    → IsChain l.older (slice_index l.newest i) (edges_below g.inputs i (length g.inputs))
