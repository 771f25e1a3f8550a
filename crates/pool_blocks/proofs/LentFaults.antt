-- The fault of a pool over borrowed data, whatever else may be at fault.
use Rattle.pool_blocks.specs.{Faults.IsLentFault, declared.fault.LentFault.{LentFault, TheVariants.{BadInput, Run, Unmade}}}
use Rattle.std.proofs.Common.{◌≡◌, ℕ, subst}
use Rattle.tp_graph.specs.Graphs.{TaskGraph}
use Rattle.tp_work.specs.Outcomes.{IsFault, IsOutcome}
