use Rattle.pool_samples.proofs.Keeping.{refl, subst, sym, IsFound, IsIndex, cell_of, is_there, lacks_none}
use Rattle.pool_samples.proofs.result_table.ResultTable.new.Goals as goal

pub returns-in-Some-clause-missing : goal.returns-in-Some-clause-missing
returns-in-Some-clause-missing c =
    let found = subst (IsIndex c.args.graph c.args.results.now) (sym c.deref.ensures.value) c.in-Ok.ensures.found in
    let rank = c.in-Some.field-0 in
    let none = subst (IsFound c.args.graph c.args.results.now rank) c.in-Some.ensures.1 (found rank c.in-Some.ensures.0) in
    (λ _. cell_of c.args.graph c.args.results.now rank c.in-Some.ensures.0 none, λ _. refl)

pub returns-clause-missing : goal.returns-clause-missing
returns-clause-missing c =
    let found = subst (IsIndex c.args.graph c.args.results.now) (sym c.deref.ensures.value) c.in-Ok.ensures.found in (
      λ e. absurd cc,
      λ lack. absurd (lacks_none c.args.graph c.args.results.now
          (λ rank h. is_there c.args.graph c.args.results.now rank _ (found rank h) (c.in-None.ensures rank h)) lack),
    )
