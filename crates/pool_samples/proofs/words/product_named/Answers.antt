use Rattle.pool_samples.proofs.Keeping.{◌≡◌, ◌*◌, ◌/◌, ◌%◌, Some, ap, ◌∙◌, arith, product_same, order_is, each_of_three}
use Rattle.pool_samples.proofs.words.product_named.Goals as goal

pub returns-then-order-side-ne0-clause-named : goal.returns-then-order-side-ne0-clause-named
returns-then-order-side-ne0-clause-named c = λ p same.
    let rule = p.in_rules in
    let order = order_is p.tiles p.side p.seed rule in
    let read = each_of_three _ _ _ _ _ _
    (c.in_ok-order.ensures.spelt (p.tiles * p.side) p.side p.seed (omega (arith, rule.small)) (omega (arith, order.few_sides))
    (omega (arith, rule.seed_small)) same) in
    let whole : c.in_ok-order.order % c.in_ok-order.side ≡ 0 =
    ap (λ n. n % c.in_ok-order.side) read.0 ∙ ap (λ n. (p.tiles * p.side) % n) read.1 ∙ order.whole in
    absurd (omega (arith, whole))

pub returns-clause-named : goal.returns-clause-named
returns-clause-named c = λ p same.
    let rule = p.in_rules in
    let order = order_is p.tiles p.side p.seed rule in
    let read = each_of_three _ _ _ _ _ _
    (c.in_ok-order.ensures.spelt (p.tiles * p.side) p.side p.seed (omega (arith, rule.small)) (omega (arith, order.few_sides))
    (omega (arith, rule.seed_small)) same) in
    let parts = ap (λ n. n / c.in_ok-order.side) read.0 ∙ ap (λ n. (p.tiles * p.side) / n) read.1 ∙ order.parts in
    ap Some (product_same _ p (parts, read.1, read.2))
