use Rattle.pool_samples.proofs.Keeping.{Some, ap, arith, wavefront_same, each_of_three}
use Rattle.pool_samples.proofs.words.wavefront_named.Goals as goal

pub returns-clause-named : goal.returns-clause-named
returns-clause-named c = λ w same.
    let rule = w.in_rules in
    let read = c.in_ok-rows.ensures.spelt w.rows w.columns w.seed (omega (arith, rule.few_rows)) (omega (arith, rule.few_columns))
    (omega (arith, rule.seed_small)) same in
    ap Some (wavefront_same _ w (each_of_three _ _ _ _ _ _ read))
