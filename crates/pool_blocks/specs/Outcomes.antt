-- How many events a finished run took, as far as its outcome shows.
use Rattle.pool_blocks.specs.{Events.all_events, Stencils.{BlockStep, block_graph}}
use Rattle.std.specs.Prelude.{ℕ, ◌≡◌, ◌≤◌, ◌+◌, ◌-◌, ◌*◌, ℤ, List}
use Rattle.tp_graph.specs.{Events.{WorkOut, below, is_message_end, is_supply_of, is_work, messages_of}, Graphs.TaskGraph}
use Rattle.tp_wave.specs.{Machine.steps_of, Steps.count}
use Rattle.tp_work.specs.{Outcomes.IsOutcome, declared.config.Outcome.Outcome}

-- An outcome takes at least 3 events for each task and 2 for each message.
abbrev pub LeastEventsLaw : Type 0
LeastEventsLaw = (n workers : ℕ) (g : TaskGraph) (o : Outcome) → IsOutcome n workers g o
    → 3 * g.tasks + 2 * o.messages ≤ count is_work (steps_of o.history.events)

-- What an outcome does not show: that each task got all its inputs but the first by a supply, and that there was a
-- message for each feed to another node, which was closed.
pub record IsFed (n : ℕ) (g : TaskGraph) (o : Outcome) : Type 0 where
  pub supplied : (t : ℕ) → count (is_supply_of t) (steps_of o.history.events) ≡ below g.tasks (λ u. g.arity u - 1) t
  pub messages : o.messages ≡ messages_of n g
  pub closed : count is_message_end (steps_of o.history.events) ≡ o.messages

-- If this holds, its steps compute the graph,
abbrev pub OutcomeLaw : Type 0
OutcomeLaw = (n workers : ℕ) (g : TaskGraph) (o : Outcome) → IsOutcome n workers g o → IsFed n g o → WorkOut n g (steps_of o.history.events)

-- and a run of this many steps in blocks took exactly the events that are counted beforehand.
abbrev pub RunEventsLaw : Type 0
RunEventsLaw = (next : BlockStep) (cells : List ℤ) (blocks size steps n workers : ℕ) (o : Outcome) → 1 ≤ blocks → 1 ≤ n
    → IsOutcome n workers (block_graph next cells blocks size steps) o → IsFed n (block_graph next cells blocks size steps) o
    → count is_work (steps_of o.history.events) ≡ all_events blocks n steps
