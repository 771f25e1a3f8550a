-- How many events it takes to compute a grid, without the waves.
use Rattle.std.specs.Prelude.{◌≡◌, ◌+◌, ◌*◌, ◌/◌, ◌%◌, ℕ, zero, suc, ℤ, List, Option}
use Rattle.tp_base.specs.declared.Step.{Step}
use Rattle.tp_wave.specs.Steps.{count}
use Rattle.tp_graph.specs.Events.{WorkOut, events_of, is_work, messages_of, task_events}
use Rattle.pool_kernels.specs.Grids.{Relation, grid_graph, inputs}

-- the events of the tasks below a number
abbrev pub events_below : Relation → ℕ → ℕ → ℕ
events_below r w zero = 0
events_below r w (suc p) = events_below r w p + task_events (inputs r w (p / w) (p % w))

-- the events of a grid at one node
abbrev pub grid_events : Relation → ℕ → ℕ → ℕ
grid_events r w steps = events_below r w (steps * w)

-- Whatever its tasks compute, these and 3 for each message are the events that are counted on its graph, and at one
-- node there is no message.
abbrev pub GridEventsLaw : Type 0
GridEventsLaw = (r : Relation) (w steps : ℕ) (rule : ℕ → List (List ℤ) → Option (List ℤ)) (nodes : ℕ)
    → events_of nodes (grid_graph r w steps rule) ≡ grid_events r w steps + 3 * messages_of nodes (grid_graph r w steps rule)

abbrev pub NoMessageLaw : Type 0
NoMessageLaw = (r : Relation) (w steps : ℕ) (rule : ℕ → List (List ℤ) → Option (List ℤ)) → messages_of 1 (grid_graph r w steps rule) ≡ 0

-- So a list that computes the graph has this number of steps of tasks and messages.
abbrev pub GridStepsLaw : Type 0
GridStepsLaw = (r : Relation) (w steps : ℕ) (rule : ℕ → List (List ℤ) → Option (List ℤ)) (nodes : ℕ) (made : List Step)
    → WorkOut nodes (grid_graph r w steps rule) made
    → count is_work made ≡ grid_events r w steps + 3 * messages_of nodes (grid_graph r w steps rule)
