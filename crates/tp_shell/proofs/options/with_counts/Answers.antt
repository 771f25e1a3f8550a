use Rattle.clap.specs.Words.{rule_of, with_rule}
use Rattle.std.proofs.{Common.{rules, ap, ap₂, codes, false, ◌||◌, ◌≡◌, ◌∙◌}, lemmas.Result.IfOk-weaker}
use Rattle.tp_base.specs.declared.limits.TheConstants.{MAX_NODES, MAX_WORKERS}
use Rattle.tp_shell.specs.Command.{count_rule}
use Rattle.tp_shell.proofs.options.with_counts.Goals as goal

pub returns-clause-app : goal.returns-clause-app
returns-clause-app c =
    let nodes_is : rule_of c.help-nodes.result ≡ count_rule (codes "nodes") MAX_NODES = search rules in
    let workers_is : rule_of c.help-workers.result ≡ count_rule (codes "workers") MAX_WORKERS = search rules in
    let one = c.in_ok-arg.ensures.shape (search rules) ∙ ap (with_rule _) nodes_is in
    IfOk-weaker c.arg-2.result _ _ (λ command adds. adds.shape (search rules) ∙ ap₂ with_rule one workers_is) c.arg-2.ensures

pub returns-clause-local : goal.returns-clause-local
returns-clause-local c = λ none.
    let nodes : c.help-nodes.result.global ≡ false = search rules in
    let workers : c.help-workers.result.global ≡ false = search rules in
    let one = c.in_ok-arg.ensures.globals ∙ ap₂ (λ a b. a || b) none nodes in
    IfOk-weaker c.arg-2.result _ _ (λ command adds. adds.globals ∙ ap₂ (λ a b. a || b) one workers) c.arg-2.ensures
