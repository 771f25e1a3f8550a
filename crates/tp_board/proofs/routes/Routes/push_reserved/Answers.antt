use Rattle.std.proofs.{Common.arith, lemmas.Grind.common_steps}
use Rattle.tp_board.proofs.routes.Routes.push_reserved.Goals as goal

pub returns-clause-routes : goal.returns-clause-routes
returns-clause-routes c = grind (arith, common_steps)
