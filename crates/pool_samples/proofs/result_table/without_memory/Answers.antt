use Rattle.pool_samples.proofs.Keeping.{refl, false, subst, IsKnown, cell_of, get_or-replicate_same, is_known, lacks_none}
use Rattle.pool_samples.proofs.result_table.without_memory.Goals as goal

pub returns-in-Some-clause-missing : goal.returns-in-Some-clause-missing
returns-in-Some-clause-missing c =
    let rank = c.in-Some.field-0 in
    let none = subst (IsKnown c.args.graph c.args.results.now rank) c.in-Some.ensures.1 (c.mark.ensures.marked rank c.in-Some.ensures.0) in
    (λ _. cell_of c.args.graph c.args.results.now rank c.in-Some.ensures.0 none, λ _. refl)

pub returns-in-None-clause-missing : goal.returns-in-None-clause-missing
returns-in-None-clause-missing c = (
  λ e. absurd cc,
  λ lack. absurd (lacks_none c.args.graph c.args.results.now
      (λ rank h. is_known c.args.graph c.args.results.now rank _ (c.mark.ensures.marked rank h) (c.in-None.ensures rank h)) lack),
)

pub mark-requires : goal.mark-requires
mark-requires c = λ rank. get_or-replicate_same 4096 rank false
