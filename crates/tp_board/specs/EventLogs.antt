-- The invariant of an event log.
use Rattle.std.specs.Prelude.{ℕ, ◌+◌, ◌≡◌, ◌≤◌, ◌<◌, length}
use Rattle.tp_base.specs.{History.Recorded, declared.step.Step.{Step, TheVariants.{Recv, MessageEnd}}}
use Rattle.tp_board.specs.{Counts.AreCountsOf, Routes.{IsNumbered, RouteTable, routes_of}, declared.counts.Counts.Counts}
use Rattle.tp_wave.specs.{Generations.{generation, present, present_events}, Machine.steps_of}

-- The numbers of a step's message and of its generation fit into an event. (A sent message is numbered by the log.)
abbrev pub HasFew : Step → Type 0
HasFew (Recv j m g) = (m.0 < 1048576) × (g.0 < 1048576)
HasFew (MessageEnd j m g) = (m.0 < 1048576) × (g.0 < 1048576)
HasFew _ = Unit {0}

-- The counts and the routes are those of the present generation, whose number is kept; what is reserved has a place and memory.
pub record IsEventLog (history : Recorded) (limit reserved number : ℕ) (counts : Counts) (routes : RouteTable) : Type 0 where
  pub counted : AreCountsOf (present_events history.events) counts
  pub numbered : IsNumbered (present (steps_of history.events))
  pub routed : routes.routes ≡ routes_of (present (steps_of history.events))
  pub generation_is : number ≡ generation (steps_of history.events)
  pub places : length history.events + reserved ≤ limit
  pub limited : limit ≤ 1048576
  pub room : reserved ≤ history.room
  pub routes_room : reserved ≤ routes.room
