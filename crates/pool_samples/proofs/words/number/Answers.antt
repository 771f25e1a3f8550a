use Rattle.pool_samples.proofs.Keeping.{◌≡◌, ◌∙◌, ◌<◌, ◌^◌, sym, subst, arith, rules, Option, ℕ, IfSome, decimal, IsPlain, decimal_plain}
use Rattle.pool_samples.proofs.Keeping.{read_plain, read_decimal}
use Rattle.pool_samples.proofs.words.number.Goals as goal

pub returns-then-not-is_plain-clause-spelt : goal.returns-then-not-is_plain-clause-spelt
returns-then-not-is_plain-clause-spelt c = λ n small same.
    let wide : n < 2 ^ 64 = omega arith in
    let plain : IsPlain c.as_bytes.result.now = subst IsPlain (sym (c.as_bytes.ensures.value ∙ same)) (decimal_plain n wide) in
    search rules

pub returns-clause-spelt : goal.returns-clause-spelt
returns-clause-spelt c =
    λ n small same. c.ok.ensures.value ∙ read_decimal c.args.text.now n c.parse.result c.parse.ensures.value.0 small same

pub returns-clause-only : goal.returns-clause-only
returns-clause-only c =
    let plain : IsPlain c.as_bytes.result.now = search rules in
    let P : Option ℕ → Type 0 = λ o. IfSome o (λ n. c.args.text.now ≡ decimal n) in
    subst P (sym c.ok.ensures.value)
    (read_plain c.args.text.now c.parse.result c.parse.ensures.value.0 (subst IsPlain c.as_bytes.ensures.value plain))
