use Rattle.pool_samples.proofs.Keeping.{arith, Some, None, split_parts, has_colon, split_number}
use Rattle.pool_samples.proofs.words.number_and_rest.Goals as goal

pub returns-in_err-first-clause-spelt : goal.returns-in_err-first-clause-spelt
returns-in_err-first-clause-spelt c = λ n rest small same.
    absurd (has_colon c.args.text.now n rest (split_parts 58 c.args.text.now None c.in_err-first.ensures.cases (omega arith)) same)

pub returns-in_err-number-clause-spelt : goal.returns-in_err-number-clause-spelt
returns-in_err-number-clause-spelt c =
    let parts = split_parts 58 c.args.text.now (Some (c.in_ok-first.first, c.in_ok-first.rest)) c.in_ok-first.ensures.cases (omega arith) in
    λ n rest small same.
    let split = split_number c.args.text.now c.in_ok-first.first.now c.in_ok-first.rest.now n rest parts.0 parts.1 small same in
    let read = c.in_err-number.ensures.spelt n small split.0 in
    absurd cc

pub returns-clause-spelt : goal.returns-clause-spelt
returns-clause-spelt c =
    let parts = split_parts 58 c.args.text.now (Some (c.in_ok-first.first, c.in_ok-first.rest)) c.in_ok-first.ensures.cases (omega arith) in
    λ n rest small same.
    let split = split_number c.args.text.now c.in_ok-first.first.now c.in_ok-first.rest.now n rest parts.0 parts.1 small same in
    let read = c.in_ok-number.ensures.spelt n small split.0 in
    (cc, split.1)
