-- How the producers of all slots are stored while a graph is computed on one thread.
use Rattle.std.specs.Prelude.{◌≡◌, ◌<◌, ◌+◌, ◌*◌, ℕ, List, length, slice_index}
use Rattle.tp_graph.specs.Graphs.{TaskGraph}

-- a table of producers: that of slot s of task t is at 16 * t + s
pub record IsTable (g : TaskGraph) (table : List ℕ) : Type 0 where
  pub long : length table ≡ 16 * g.tasks
  pub each : (t s : ℕ) → t < g.tasks → s < g.arity t → slice_index table (16 * t + s) ≡ g.source t s

-- the same, of the tasks below p and the first k feeds of p
pub record IsTableTo (g : TaskGraph) (p : ℕ) (k : ℕ) (table : List ℕ) : Type 0 where
  pub long : length table ≡ 16 * g.tasks
  pub earlier : (t s : ℕ) → t < g.tasks → s < g.arity t → g.source t s < p → slice_index table (16 * t + s) ≡ g.source t s
  pub current : (t s : ℕ) → t < g.tasks → s < g.arity t → g.source t s ≡ p → g.turn t s < k → slice_index table (16 * t + s) ≡ p
