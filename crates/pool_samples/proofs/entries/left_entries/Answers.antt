use Rattle.pool_samples.proofs.Keeping.{◌+◌, ◌*◌, ◌∙◌, arith, left_at, small_entry}
use Rattle.pool_samples.proofs.entries.left_entries.Goals as goal

pub returns-clause-same : goal.returns-clause-same
returns-clause-same c = λ n h. c.part.ensures.same n h ∙ left_at c.args.seed c.args.x c.args.z n (omega arith)

pub returns-clause-small : goal.returns-clause-small
returns-clause-small c = λ n h.
    rw (c.part.ensures.same n h
    ∙ left_at c.args.seed c.args.x c.args.z n (omega arith)) (small_entry (7 * c.args.x + 3 * (c.args.z + n) + c.args.seed))
