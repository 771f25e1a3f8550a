use Rattle.clap.{proofs.WalkLemmas.first_value-rows, specs.Words.{found_of, rows_of}}
use Rattle.std.proofs.{Common.{◌≡◌, ◌∙◌, ap, codes, subst, sym, Some}, lemmas.Result.IfOk-weaker}
use Rattle.tp_cli.{proofs.Asked.{asked_as, pools_unnamed, run_unnamed}, specs.Asked.IsRequestOf}
use Rattle.tp_cli.proofs.request.asked_of.Goals as goal

pub returns-in-run : goal.returns-in-run
returns-in-run c =
    let found = found_of c.args.arguments.now in
    let is : c.args.name.now ≡ codes "run" = c.in-run.is in
    asked_as c.run_asked.result _ _ _ _
    (λ lacks. run_unnamed c.args.name.now (rows_of found) is (sym (first_value-rows found (codes "SPEC")) ∙ lacks))
    (λ request made. subst (λ name. IsRequestOf (Some (name, rows_of found)) request) (sym is) made)
    c.run_asked.ensures

pub returns-in-pools : goal.returns-in-pools
returns-in-pools c =
    let rows = rows_of (found_of c.args.arguments.now) in
    let is : c.args.name.now ≡ codes "pools" = c.in-pools.is in
    IfOk-weaker c.pools_asked.result _ _
    (λ o asked. asked_as o _ _ _ _
    (λ lacks. pools_unnamed c.args.name.now rows is lacks)
    (λ request made. subst (λ name. IsRequestOf (Some (name, rows)) request) (sym is) made)
    asked)
    c.pools_asked.ensures

pub returns-in-sim : goal.returns-in-sim
returns-in-sim c = let rows = rows_of (found_of c.args.arguments.now) in (rows, ap (λ name. Some (name, rows)) c.in-sim.is)

pub returns-in-audit : goal.returns-in-audit
returns-in-audit c = let rows = rows_of (found_of c.args.arguments.now) in (rows, ap (λ name. Some (name, rows)) c.in-audit.is)
