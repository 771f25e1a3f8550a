use Rattle.clap.specs.{Words.{app_of, new_app, with_rule}, declared.builder.command.Command.TheViews.out-Command}
use Rattle.std.proofs.{Common.{rules, ap, ap₂, codes, false, ◌||◌, ◌≡◌, ◌∙◌}, lemmas.Result.IfOk-weaker}
use Rattle.tp_shell.specs.Command.{with_count_rules}
use Rattle.tp_cli.proofs.command.run_command.Goals as goal

pub returns-clause-app : goal.returns-clause-app
returns-clause-app c =
    let bare : app_of c.after_help.result ≡ new_app (codes "run") = search rules in
    let one = c.in_ok-command.ensures.shape (search rules) ∙ ap₂ with_rule bare c.spec_argument.ensures.rule in
    let counted = c.in_ok-with_counts.ensures.app ∙ ap with_count_rules one in
    let several = c.in_ok-arg.ensures.shape (search rules) ∙ ap₂ with_rule counted c.generations_option.ensures.rule in
    let traced = c.in_ok-arg-2.ensures.shape (search rules) ∙ ap₂ with_rule several c.trace_flag.ensures.rule in
    IfOk-weaker c.arg-4.result _ _ (λ command adds. adds.shape (search rules)
    ∙ ap₂ with_rule traced c.profile_option.ensures.rule) c.arg-4.ensures

pub returns-clause-local : goal.returns-clause-local
returns-clause-local c =
    let none : (out-Command c.after_help.result).has_globals ≡ false = search rules in
    let one = c.in_ok-command.ensures.globals ∙ ap₂ (λ a b. a || b) none c.spec_argument.ensures.local in
    let counted = c.in_ok-with_counts.ensures.local one in
    let several = c.in_ok-arg.ensures.globals ∙ ap₂ (λ a b. a || b) counted c.generations_option.ensures.local in
    let traced = c.in_ok-arg-2.ensures.globals ∙ ap₂ (λ a b. a || b) several c.trace_flag.ensures.local in
    IfOk-weaker c.arg-4.result _ _ (λ command adds. adds.globals ∙ ap₂ (λ a b. a || b) traced c.profile_option.ensures.local) c.arg-4.ensures
