-- How many events a finished run of a product took, as far as its outcome shows.
use Rattle.pool_blocks.specs.Outcomes.{IsFed}
use Rattle.pool_matrix.specs.{Events.product_events, Matrices.matrix_graph}
use Rattle.std.specs.Prelude.{ℕ, ◌≡◌, ◌≤◌, ℤ, List}
use Rattle.tp_graph.specs.Events.{is_work}
use Rattle.tp_wave.specs.{Machine.steps_of, Steps.count}
use Rattle.tp_work.specs.{Outcomes.IsOutcome, declared.config.Outcome.Outcome}

-- If each task got its inputs and each feed to another node was a message, a product in tiles took exactly the events that are
-- counted beforehand.
abbrev pub ProductRunLaw : Type 0
ProductRunLaw = (left right : List ℤ) (tiles side n workers : ℕ) (o : Outcome) → 1 ≤ n
    → IsOutcome n workers (matrix_graph left right tiles side) o → IsFed n (matrix_graph left right tiles side) o
    → count is_work (steps_of o.history.events) ≡ product_events tiles n
