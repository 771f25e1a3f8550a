-- When the tasks and feeds of a graph are in order, and what is wrong with it first.
use Rattle.std.specs.Prelude.{◌≡◌, ◌<◌, ◌≤◌, ◌+◌, ◌*◌, ◌⊎◌, ℕ, ⊤, Bool, true, false, List, length, slice_index_or}
use Rattle.tp_base.specs.declared.limits.TheConstants.{CLASSES, MAX_INPUTS, MAX_NODES}
use Rattle.tp_graph.specs.Graphs.{IsLawful, TaskGraph}
use Rattle.pool_kernels.specs.declared.fault.GraphFault.{GraphFault, TheVariants.{Class, Empty, Home, Inputs, NoMemory, Slot}}
use Rattle.pool_kernels.specs.declared.fault.GraphFault.TheVariants.{Taken, Target}

-- a task has few inputs, a class, and a home at n nodes
pub record IsPlaced (g : TaskGraph) (n t : ℕ) : Type 0 where
  pub inputs : g.arity t ≤ MAX_INPUTS
  pub class : g.class t < CLASSES
  pub home : g.home t n < n

-- feed k of task p comes before feed l of task q
abbrev pub IsBefore : ℕ → ℕ → ℕ → ℕ → Type 0
IsBefore p k q l = (p < q) ⊎ ((p ≡ q) × (k < l))

-- feed k of task p is one of the graph, and fills slot s of task t
pub record Fills (g : TaskGraph) (p k t s : ℕ) : Type 0 where
  pub task : p < g.tasks
  pub turn : k < g.feeds p
  pub target : g.target p k ≡ t
  pub slot : g.slot p k ≡ s

-- a feed before feed k of task p fills slot s of task t
pub record IsFilledBefore (g : TaskGraph) (p k t s : ℕ) : Type 0 where
  pub task : ℕ
  pub turn : ℕ
  pub before : IsBefore task turn p k
  pub fills : Fills g task turn t s

-- a feed of a lower task fills slot s of task t
abbrev pub IsFed : TaskGraph → ℕ → ℕ → Type 0
IsFed g t s = IsFilledBefore g t 0 t s

-- feed k of task p goes to a higher task of the graph
pub record GoesUp (g : TaskGraph) (p k : ℕ) : Type 0 where
  pub higher : p < g.target p k
  pub known : g.target p k < g.tasks

-- that task has the slot that the feed goes to
abbrev pub HasSlot : TaskGraph → ℕ → ℕ → Type 0
HasSlot g p k = g.slot p k < g.arity (g.target p k)

-- an earlier feed fills this slot
abbrev pub IsTaken : TaskGraph → ℕ → ℕ → Type 0
IsTaken g p k = IsFilledBefore g p k (g.target p k) (g.slot p k)

-- feed k of task p is as it has to be
pub record IsRight (g : TaskGraph) (p k : ℕ) : Type 0 where
  pub goes : GoesUp g p k
  pub within : HasSlot g p k
  pub alone : IsTaken g p k → ⊥

-- the slots of a task are filled, and its feeds right: up to slot s, and up to feed k
abbrev pub AreFed : TaskGraph → ℕ → ℕ → Type 0
AreFed g t s = (i : ℕ) → i < s → IsFed g t i

abbrev pub AreRight : TaskGraph → ℕ → ℕ → Type 0
AreRight g p k = (l : ℕ) → l < k → IsRight g p l

pub record IsConnected (g : TaskGraph) (t : ℕ) : Type 0 where
  pub slots : AreFed g t (g.arity t)
  pub feeds : AreRight g t (g.feeds t)

-- the graph is in order at n nodes
pub record IsSound (g : TaskGraph) (n : ℕ) : Type 0 where
  pub placed : (t : ℕ) → t < g.tasks → IsPlaced g n t
  pub connected : (t : ℕ) → t < g.tasks → IsConnected g t

-- ---- what is wrong first: places of tasks before slots and feeds, lower tasks before higher ones
pub record IsFirstPlace (g : TaskGraph) (n t : ℕ) : Type 0 where
  pub known : t < g.tasks
  pub lower : (u : ℕ) → u < t → IsPlaced g n u

-- each task is placed, and those below task t are connected
pub record IsReached (g : TaskGraph) (n t : ℕ) : Type 0 where
  pub placed : (u : ℕ) → u < g.tasks → IsPlaced g n u
  pub lower : (u : ℕ) → u < t → IsConnected g u
  pub known : t < g.tasks

pub record IsFirstSlot (g : TaskGraph) (n t s : ℕ) : Type 0 where
  pub reached : IsReached g n t
  pub fed : AreFed g t s
  pub within : s < g.arity t

pub record IsFirstFeed (g : TaskGraph) (n p k : ℕ) : Type 0 where
  pub reached : IsReached g n p
  pub fed : AreFed g p (g.arity p)
  pub right : AreRight g p k
  pub within : k < g.feeds p

abbrev pub IsGraphFault : TaskGraph → ℕ → GraphFault → Type 0
IsGraphFault g n (Inputs t) = IsFirstPlace g n t.0 × (MAX_INPUTS < g.arity t.0)
IsGraphFault g n (Class t) = IsFirstPlace g n t.0 × (g.arity t.0 ≤ MAX_INPUTS) × (CLASSES ≤ g.class t.0)
IsGraphFault g n (Home t) = IsFirstPlace g n t.0 × (g.arity t.0 ≤ MAX_INPUTS) × (g.class t.0 < CLASSES) × (n ≤ g.home t.0 n)
IsGraphFault g n (Empty t s) = IsFirstSlot g n t.0 s × (IsFed g t.0 s → ⊥)
IsGraphFault g n (Target p k) = IsFirstFeed g n p.0 k × (GoesUp g p.0 k → ⊥)
IsGraphFault g n (Slot p k) = IsFirstFeed g n p.0 k × GoesUp g p.0 k × (HasSlot g p.0 k → ⊥)
IsGraphFault g n (Taken p k) = IsFirstFeed g n p.0 k × GoesUp g p.0 k × HasSlot g p.0 k × IsTaken g p.0 k
IsGraphFault g n NoMemory = ⊤

-- ---- the marks of slots that feeds fill
-- each task has at most 16 inputs
abbrev pub AreFew : TaskGraph → Type 0
AreFew g = (t : ℕ) → t < g.tasks → g.arity t ≤ MAX_INPUTS

-- the mark of slot s of task t
abbrev pub mark_at : List Bool → ℕ → ℕ → Bool
mark_at marks t s = slice_index_or marks (16 * t + s) false

-- the slots that are marked are those that the feeds before feed k of task p fill
pub record AreMarks (g : TaskGraph) (p k : ℕ) (marks : List Bool) : Type 0 where
  pub long : length marks ≡ 16 * g.tasks
  pub set : (t s : ℕ) → t < g.tasks → s < 16 → IsFilledBefore g p k t s → mark_at marks t s ≡ true
  pub only : (t s : ℕ) → t < g.tasks → s < 16 → mark_at marks t s ≡ true → IsFilledBefore g p k t s

-- ---- the laws of a graph
-- A lawful graph is in order at 1 to 8 nodes.
abbrev pub LawfulIsSound : Type 0
LawfulIsSound = (g : TaskGraph) (n : ℕ) → IsLawful g → 1 ≤ n → n ≤ MAX_NODES → IsSound g n

-- If a graph is in order at 1 to 8 nodes, there are ways back from its slots with which it is lawful.
abbrev pub SoundIsLawful : Type 0
SoundIsLawful = (g : TaskGraph) → ((n : ℕ) → 1 ≤ n → n ≤ MAX_NODES → IsSound g n)
    → (source : ℕ → ℕ → ℕ) × (turn : ℕ → ℕ → ℕ) × IsLawful (record g { source = source; turn = turn })
