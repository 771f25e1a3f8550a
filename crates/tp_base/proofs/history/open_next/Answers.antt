use Rattle.std.proofs.{Common.arith, lemmas.Grind.common_steps}
use Rattle.tp_base.proofs.history.open_next.Goals as goal

pub returns-then-not-is_empty-clause-events : goal.returns-then-not-is_empty-clause-events
returns-then-not-is_empty-clause-events c = grind (arith, common_steps)
