-- How many events it takes to compute a product in tiles, without the waves.
use Rattle.std.specs.Prelude.{ℕ, ◌≡◌, ◌+◌, ◌-◌, ◌*◌, ◌≤◌, ℤ, List, nat_lt, if◌then◌else◌}
use Rattle.tp_base.specs.declared.Step.{Step}
use Rattle.tp_wave.specs.Steps.{count}
use Rattle.tp_graph.specs.Events.{WorkOut, events_of, is_work}
use Rattle.pool_matrix.specs.Matrices.{matrix_graph}

-- For each tile of the product the number of tasks is that of tiles along a side. Each takes 3 events: the first has no input,
-- and any other has one, the tile so far.
abbrev pub events_of_tasks : ℕ → ℕ
events_of_tasks tiles = 3 * (tiles * tiles * tiles)

-- If there are several nodes, the tile so far is at another one: a message for each task but the first, of 3 events.
abbrev pub events_of_messages : ℕ → ℕ → ℕ
events_of_messages tiles nodes = if nat_lt 1 nodes then 3 * (tiles * tiles * (tiles - 1)) else 0

abbrev pub product_events : ℕ → ℕ → ℕ
product_events tiles nodes = events_of_tasks tiles + events_of_messages tiles nodes

-- Whatever the matrices, these are the events that are counted on the graph.
abbrev pub ProductEventsLaw : Type 0
ProductEventsLaw = (left right : List ℤ) (tiles side nodes : ℕ) → 1 ≤ nodes
    → events_of nodes (matrix_graph left right tiles side) ≡ product_events tiles nodes

-- So a list that computes the graph has this number of steps of tasks and messages.
abbrev pub ProductStepsLaw : Type 0
ProductStepsLaw = (left right : List ℤ) (tiles side nodes : ℕ) (made : List Step) → 1 ≤ nodes
    → WorkOut nodes (matrix_graph left right tiles side) made → count is_work made ≡ product_events tiles nodes
