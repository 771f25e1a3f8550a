-- A part of a graph: what contracts see of it, and when a task of it is ready.
use Rattle.std.specs.{Option.option_map, Prelude.{ℕ, ◌+◌, ◌≡◌, ◌==◌, List, [], ◌∷◌, Bool, length, IsTrue, slice_get, Option, Some, None}}
use Rattle.std.specs.Prelude.{if◌then◌else◌}
use Rattle.tp_dag.specs.{State.Input, declared.entry.Stage.Stage}
use Rattle.tp_part.specs.declared.edges.Edge.{Edge}
use Rattle.tp_dag.specs.declared.entry.Stage.TheVariants as stage

-- How far an own task is.
pub record Progress : Type 0 where
  pub class : ℕ
  pub stage : Stage

pub record PartState : Type 0 where
  -- the number of the part, and how many parts there are
  pub number : ℕ
  pub parts : ℕ
  pub started : Bool
  -- how many tasks were described, of all parts, and how many inputs they have
  pub described : ℕ
  pub inputs : ℕ
  -- The own tasks, in the order of the graph: their numbers, and how far they are. The place of a task in both lists stands for it below.
  pub numbers : List ℕ
  pub tasks : List Progress
  -- which own task reads which own task
  pub links : List Input
  -- which own task reads a value of another part, and whether the value arrived
  pub incoming : List Edge
  -- to which other part the value of an own task goes, and whether the task is done
  pub outgoing : List Edge
  -- the messages in the order in which they became due, each by the place of its edge; and how many of them were sent
  pub outbox : List ℕ
  pub sent : ℕ

-- ---- own tasks
-- the place of task t
abbrev pub place_in : List ℕ → ℕ → Option ℕ
place_in [] t = None
place_in (n ∷ ns) t = if n == t then Some 0 else option_map (λ k. k + 1) (place_in ns t)

-- Task t is an own one, at place k.
abbrev pub IsOwn : ℕ → ℕ → PartState → Type 0
IsOwn t k a = slice_get a.numbers k ≡ Some t

-- The own task at place k is at this stage.
pub record IsAt (s : Stage) (k : ℕ) (a : PartState) : Type 0 where
  pub task : Progress
  pub is : slice_get a.tasks k ≡ Some task
  pub stage : task.stage ≡ s

-- The own task at place k reads the own task at place s.
abbrev pub Reads : ℕ → ℕ → PartState → Type 0
Reads k s a = (n : ℕ) × (slice_get a.links n ≡ Some (record { source = s; target = k }))

-- The own task at place k may run: it was not told to, each own task that it reads is done, and each value of another part that it reads
-- arrived.
pub record IsReady (k : ℕ) (a : PartState) : Type 0 where
  pub task : Progress
  pub is : slice_get a.tasks k ≡ Some task
  pub fresh : task.stage ≡ stage.Fresh
  pub inputs : (s : ℕ) → Reads k s a → IsAt stage.Done s a
  pub arrived : (n : ℕ) (e : Edge) → slice_get a.incoming n ≡ Some e → e.target ≡ k → IsTrue e.passed

-- No message is due.
abbrev pub HasSentAll : PartState → Type 0
HasSentAll a = a.sent ≡ length a.outbox

-- Each own task is done.
abbrev pub AreDone : PartState → Type 0
AreDone a = (k : ℕ) (x : Progress) → slice_get a.tasks k ≡ Some x → x.stage ≡ stage.Done
