use Rattle.clap.{proofs.WalkLemmas.one_text-rows, specs.Words.found_of}
use Rattle.std.proofs.Common.{◌≡◌, ◌∙◌, codes, false, refl, true}
use Rattle.tp_cli.proofs.request.form_of.Goals as goal

pub returns-then-get_flag : goal.returns-then-get_flag
returns-then-get_flag c =
    let rows = one_text-rows (found_of c.args.arguments.now) (codes "trace") in
    let yes : c.get_flag.result ≡ true = c.if-get_flag.true in
    (λ is. refl, λ is. let no : c.get_flag.result ≡ false = c.get_flag.ensures.other (rows ∙ is) in cc)

pub returns-else-get_flag : goal.returns-else-get_flag
returns-else-get_flag c =
    let rows = one_text-rows (found_of c.args.arguments.now) (codes "trace") in
    let no : c.get_flag.result ≡ false = c.if-get_flag.false in
    (λ is. let yes : c.get_flag.result ≡ true = c.get_flag.ensures.value (rows ∙ is) in cc, λ is. refl)
