use Rattle.pool_blocks.proofs.Outcomes.{least_law}
use Rattle.pool_blocks.proofs.run_laws.run_events_are_counted.Goals as goal

pub returns-clause-least : goal.returns-clause-least
returns-clause-least c = least_law
