use Rattle.pool_samples.proofs.Keeping.{◌+◌, ◌*◌, ◌∙◌, arith, right_at, small_entry}
use Rattle.pool_samples.proofs.entries.right_entries.Goals as goal

pub returns-clause-same : goal.returns-clause-same
returns-clause-same c = λ n h. c.part.ensures.same n h ∙ right_at c.args.place n (omega arith)

pub returns-clause-small : goal.returns-clause-small
returns-clause-small c = λ n h.
    rw (c.part.ensures.same n h ∙ right_at c.args.place n (omega arith)) (small_entry (5 * (c.args.place + n)))
