use Rattle.clap.{proofs.WalkLemmas.one_text-rows, specs.Words.found_of}
use Rattle.std.proofs.Common.{◌∙◌, codes}
use Rattle.tp_shell.proofs.options.config_of.Goals as goal

pub returns-clause-asked : goal.returns-clause-asked
returns-clause-asked c =
    let found = found_of c.args.matches.now in (
      λ t e numeral least most. c.new.ensures.nodes
          ∙ c.count_of-nodes.ensures.asked t (one_text-rows found (codes "nodes") ∙ e) numeral least most,
      λ t e numeral least most. c.new.ensures.workers
          ∙ c.count_of-workers.ensures.asked t (one_text-rows found (codes "workers") ∙ e) numeral least most,
    )
