use Rattle.tp_text.proofs.Readings.{ended_never_early}
use Rattle.tp_text.proofs.simulation.sim.Goals as goal

pub returns-clause-never_early : goal.returns-clause-never_early
returns-clause-never_early g c = ended_never_early
