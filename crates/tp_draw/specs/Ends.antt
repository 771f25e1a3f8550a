-- What was read when a picture of a run was written.
use Rattle.std.specs.Prelude.{ℕ, List, Option}
use Rattle.tp_base.specs.declared.Step.{Step}
use Rattle.tp_text.specs.{Input.ReadsAll, Reading.IsSoundTraceOf}

-- All was read, and it is a sound trace. The reader is seen by its bytes before and after.
abbrev pub HasReadTrace : Option (List ℕ) → Option (List ℕ) → Type 0
HasReadTrace old new = (bytes : List ℕ) × ReadsAll old new bytes × ((n : ℕ) × (steps : List Step) × IsSoundTraceOf bytes n steps)
