use Rattle.clap.{proofs.WalkLemmas.one_text-rows, specs.Words.found_of}
use Rattle.std.proofs.Common.{◌∙◌, codes}
use Rattle.tp_cli.proofs.request.plan_of.Goals as goal

pub returns-clause-generations : goal.returns-clause-generations
returns-clause-generations c = λ t e. c.count_of.ensures.asked t (one_text-rows (found_of c.args.arguments.now) (codes "generations") ∙ e)
