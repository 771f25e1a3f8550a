-- What a new core accepts of any list of steps, unless memory runs out.
use Rattle.std.specs.Prelude.{List, [], ◌≡◌}
use Rattle.tp_base.specs.declared.Step.{Step}
use Rattle.tp_core.specs.{Accepted.{Accepted, after_all}, Generations.{AreRuns, InEach}, NeverEarly.IsNeverEarly}

-- The accepted steps are runs, and the detector is never early in any generation.
abbrev pub AcceptedIsNeverEarly : Type 0
AcceptedIsNeverEarly = (a : Accepted) (later : List Step) → a.steps ≡ [] →
    AreRuns a.nodes (after_all a later).steps × InEach (IsNeverEarly a.nodes) (after_all a later).steps
