-- How many events and messages it takes to compute steps in blocks, without the waves.
use Rattle.std.specs.Prelude.{ℕ, ◌≡◌, ◌+◌, ◌-◌, ◌*◌, ◌≤◌, ℤ, List, min}
use Rattle.tp_base.specs.declared.Step.{Step}
use Rattle.tp_wave.specs.Steps.{count}
use Rattle.pool_blocks.specs.Stencils.{BlockStep, block_graph}
use Rattle.tp_graph.specs.Events.{WorkOut, events_of, is_work, messages_of}

-- the inputs of a step: of each block the one before, itself and the one after, as far as they exist
abbrev pub step_inputs : ℕ → ℕ
step_inputs blocks = 3 * blocks - 2

-- the messages of a step: each node has a range of blocks, and two messages cross each boundary between two nodes
abbrev pub step_messages : ℕ → ℕ → ℕ
step_messages blocks nodes = 2 * (min blocks nodes - 1)

-- the events of a step
abbrev pub step_events : ℕ → ℕ → ℕ
step_events blocks nodes = step_inputs blocks + 2 * blocks + 3 * step_messages blocks nodes

abbrev pub all_events : ℕ → ℕ → ℕ → ℕ
all_events blocks nodes steps = 3 * blocks + steps * step_events blocks nodes

-- Whatever the stencil and the cells, these are the numbers of messages and events that are counted on the graph.
abbrev pub BlockMessagesLaw : Type 0
BlockMessagesLaw = (next : BlockStep) (cells : List ℤ) (blocks size steps nodes : ℕ) → 1 ≤ blocks → 1 ≤ nodes
    → messages_of nodes (block_graph next cells blocks size steps) ≡ steps * step_messages blocks nodes

abbrev pub BlockEventsLaw : Type 0
BlockEventsLaw = (next : BlockStep) (cells : List ℤ) (blocks size steps nodes : ℕ) → 1 ≤ blocks → 1 ≤ nodes
    → events_of nodes (block_graph next cells blocks size steps) ≡ all_events blocks nodes steps

-- So a list that computes the graph has this number of steps of tasks and messages.
abbrev pub BlockStepsLaw : Type 0
BlockStepsLaw = (next : BlockStep) (cells : List ℤ) (blocks size steps nodes : ℕ) (made : List Step) → 1 ≤ blocks → 1 ≤ nodes
    → WorkOut nodes (block_graph next cells blocks size steps) made → count is_work made ≡ all_events blocks nodes steps
