use Rattle.pool_samples.proofs.Keeping.{Some, ap, arith, reduce_same, few_leaves, some_same}
use Rattle.pool_samples.proofs.words.reduce_named.Goals as goal

pub returns-clause-named : goal.returns-clause-named
returns-clause-named c = λ r same.
    let rule = r.in_rules in
    let read = c.in_ok-leaves.ensures.spelt r.leaves _ (few_leaves r.leaves rule.leaf_count) same in
    let rest = c.in_ok-seed.ensures.spelt r.seed (omega (arith, rule.seed_small)) read.1 in
    ap Some (reduce_same _ r (read.0, some_same rest))
