use Rattle.clap.{proofs.WalkLemmas.raw_values-rows, specs.Words.{all_of, found_of, rows_of}}
use Rattle.std.proofs.Common.{rules, ◌≡◌, ◌∙◌, ap, codes, map, refl, sym, Some}
use Rattle.tp_cli.proofs.request.pools_asked.Goals as goal

pub returns-in_default : goal.returns-in_default
returns-in_default c = sym (raw_values-rows (found_of c.args.arguments.now) (codes "SPEC")) ∙ sym c.in_default.ensures

pub returns : goal.returns
returns c =
    let found = found_of c.args.arguments.now in
    let same : c.in_ok-words.words.items ≡ c.in-Some.words.now = search rules in
    let specs : all_of (codes "SPEC") (rows_of found) ≡ Some (map (λ s. s.now) c.in_ok-words.words.items) =
    sym (raw_values-rows found (codes "SPEC")) ∙ sym c.in-Some.ensures ∙ ap (λ words. Some (map (λ s. s.now) words)) (sym same) in
    (rows_of found, refl, c.config_of.ensures.limits, specs, c.config_of.ensures.asked)
