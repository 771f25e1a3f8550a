-- Task graphs as plain data, and the invariant of each graph.
use Rattle.std.specs.Prelude.{◌≡◌, ◌<◌, ◌≤◌, ℕ, ℤ, Bool, true, List, Option}
use Rattle.tp_base.specs.declared.limits.TheConstants.{CLASSES, MAX_INPUTS, MAX_NODES}

-- A task graph as plain data. Tasks are the numbers below `tasks`. Task t waits for `arity t` inputs, in slots from 0 on; slot s
-- is filled by feed `turn t s` of task `source t s`. Task t passes its value on in `feeds t` feeds; feed k goes to slot `slot t
-- k` of task `target t k`. `home t m` is its node if there are m nodes. `rule t` computes its value from its inputs in slot
-- order, or fails. `keeps t` says whether a run returns its value.
pub record TaskGraph : Type 0 where
  pub tasks : ℕ
  pub arity : ℕ → ℕ
  pub class : ℕ → ℕ
  pub feeds : ℕ → ℕ
  pub target : ℕ → ℕ → ℕ
  pub slot : ℕ → ℕ → ℕ
  pub source : ℕ → ℕ → ℕ
  pub turn : ℕ → ℕ → ℕ
  pub home : ℕ → ℕ → ℕ
  pub rule : ℕ → List (List ℤ) → Option (List ℤ)
  pub keeps : ℕ → Bool

-- feed k of task p goes to a slot of a higher task, and fills that slot
pub record FillsSlot (g : TaskGraph) (p : ℕ) (k : ℕ) : Type 0 where
  pub higher : p < g.target p k
  pub known : g.target p k < g.tasks
  pub within : g.slot p k < g.arity (g.target p k)
  pub source_is : g.source (g.target p k) (g.slot p k) ≡ p
  pub turn_is : g.turn (g.target p k) (g.slot p k) ≡ k

-- slot s of task t is filled by a feed of a lower task
pub record IsFilled (g : TaskGraph) (t : ℕ) (s : ℕ) : Type 0 where
  pub lower : g.source t s < t
  pub within : g.turn t s < g.feeds (g.source t s)
  pub target_is : g.target (g.source t s) (g.turn t s) ≡ t
  pub slot_is : g.slot (g.source t s) (g.turn t s) ≡ s

-- The invariant of a task graph. The two parts on feeds say together that each slot below a task's arity has exactly one feed of
-- exactly one producer, and that no feed names another slot.
pub record IsLawful (g : TaskGraph) : Type 0 where
  pub few_inputs : (t : ℕ) → t < g.tasks → g.arity t ≤ MAX_INPUTS
  pub few_classes : (t : ℕ) → t < g.tasks → g.class t < CLASSES
  pub homes : (t m : ℕ) → t < g.tasks → 1 ≤ m → m ≤ MAX_NODES → g.home t m < m
  pub feeds_fill : (p k : ℕ) → p < g.tasks → k < g.feeds p → FillsSlot g p k
  pub slots_filled : (t s : ℕ) → t < g.tasks → s < g.arity t → IsFilled g t s

-- a run returns the value of each task
abbrev pub KeepsAll : TaskGraph → Type 0
KeepsAll g = (t : ℕ) → g.keeps t ≡ true
