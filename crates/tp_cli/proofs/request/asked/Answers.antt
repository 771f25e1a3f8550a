use Rattle.clap.specs.{Words.{found_of, rows_of}, declared.parser.matches.ArgMatches.TheViews.out-ArgMatches}
use Rattle.std.proofs.Common.{subst, sym, IfOk, MatchOption}
use Rattle.tp_cli.{proofs.Asked.found_as, specs.{Asked.IsRequestOf, Command.IsNeither}}
use Rattle.tp_cli.proofs.request.asked.Goals as goal

pub returns-in-Some : goal.returns-in-Some
returns-in-Some c =
    let found = found_of c.in-Some.arguments.now in
    let is = found_as (out-ArgMatches c.args.matches.now).subcommand c.in-Some.name.now (rows_of found) (sym c.in-Some.ensures.name)
    (sym c.in-Some.ensures.rows) in
    subst (λ f. IfOk c.asked_of.result (λ request. MatchOption request (IsNeither f) (IsRequestOf f))) (sym is) c.asked_of.ensures
