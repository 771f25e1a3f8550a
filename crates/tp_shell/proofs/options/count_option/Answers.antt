use Rattle.clap.specs.{Words.signed_between, declared.builder.value_parser.ValueParser.TheVariants.Signed}
use Rattle.std.{proofs.Common.{rules, ◌≡◌, ◌≤◌, ◌∙◌, ap, ap₂, pos}, specs.{Int.{int_max, int_min}, Range.range_inclusive_end}}
use Rattle.std.specs.Range.{range_inclusive_start}
use Rattle.tp_shell.proofs.Bounded.{lesser}
use Rattle.tp_shell.proofs.options.count_option.Goals as goal

pub returns-clause-rule : goal.returns-clause-rule
returns-clause-rule c =
    let few : c.args.most ≤ 4294967295 = search rules in
    let first : range_inclusive_start c.new-2.result ≡ pos 1 = search rules in
    let last : range_inclusive_end c.new-2.result ≡ pos c.args.most = search rules in
    let narrowed = rw c.value_parser.ensures at c.range.ensures in
    let made : c.range.result ≡ Signed (pos 1) (pos c.args.most) =
    narrowed ∙ ap₂ (λ a b. signed_between (int_max (pos 0) a) (int_min (pos 4294967295) b)) first last
    ∙ ap (signed_between (pos 1)) (lesser c.args.most few) in
    search rules
