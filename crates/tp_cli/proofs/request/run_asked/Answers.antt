use Rattle.clap.{proofs.WalkLemmas.first_value-rows, specs.Words.{found_of, rows_of}}
use Rattle.std.proofs.Common.{◌∙◌, codes, refl, sym}
use Rattle.tp_cli.proofs.request.run_asked.Goals as goal

pub returns : goal.returns
returns c =
    let found = found_of c.args.arguments.now in
    let spec = sym (first_value-rows found (codes "SPEC")) ∙ sym c.in_ok-spec.ensures in
    let file = sym (first_value-rows found (codes "profile")) ∙ sym c.get_str-file.ensures in
    let plan = c.plan_of.ensures in
    (rows_of found, refl, plan.lawful, spec, plan.counts, plan.generations, plan.form, file)
