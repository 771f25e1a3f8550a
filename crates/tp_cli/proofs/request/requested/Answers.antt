use Rattle.clap.{proofs.TakesLemmas.passed_up, specs.{Words.app_of, declared.error.kind.ErrorKind.TheVariants.MissingSubcommand}}
use Rattle.std.proofs.Common.{inr, map, refl}
use Rattle.tp_cli.{proofs.Asked.{neither_asked, request_asked, some_asked}, specs.Command.{IsNeither, asked, tp_app}}
use Rattle.tp_shell.proofs.Asked.{fails_as, none_asked}
use Rattle.tp_cli.proofs.request.requested.Goals as goal

pub returns-in_err-matches-clause-why : goal.returns-in_err-matches-clause-why
returns-in_err-matches-clause-why c =
    let error = c.in_err-matches.field-0.0 in
    let asking = map (λ w. w.now) c.args.words.now in
    passed_up c.from_residual-in_err-matches.result error _ c.from_residual-in_err-matches.ensures.1
    (fails_as tp_app (app_of c.in_ok-command.command) MissingSubcommand (IsNeither (asked asking)) asking error refl
    c.in_ok-command.ensures c.in_err-matches.ensures.kinds)

pub returns-clause-why : goal.returns-clause-why
returns-clause-why c =
    inr (inr (
      c.in_ok-error-in-None.ensures.kind,
      neither_asked (app_of c.in_ok-command.command) _ c.in_ok-matches.matches c.in_ok-command.ensures c.in_ok-matches.ensures.ok.2
          (none_asked _ _ _ c.in-None.is c.in_ok-request.ensures),
    ))

pub returns-in-Some-clause-asked : goal.returns-in-Some-clause-asked
returns-in-Some-clause-asked c =
    request_asked (app_of c.in_ok-command.command) _ c.in_ok-matches.matches c.in-Some.request c.in_ok-command.ensures
    c.in_ok-matches.ensures.ok.2 (some_asked _ _ _ c.in-Some.request c.in-Some.is c.in_ok-request.ensures)
