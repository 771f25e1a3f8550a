use Rattle.tp_work.proofs.{Lemmas.{ℕ, ap, subst, sym, not_once, HasEachOnce}, once.mark_each.Goals.returns-then-not-mark-clause-no as goal}

pub returns-then-not-mark-clause-no : goal
returns-then-not-mark-clause-no c =
    λ _ once.
    not_once c.args.results.now c.loop-task.marks c.loop-task.task-index c.loop-task-item.result.0.0 c.loop-task-item.result
    c.loop-task-test.true
    (ap (λ r. r.0.0) (sym c.loop-task-item.is)) c.loop-task.invariant
    (λ fresh. let marked = c.mark.ensures.fresh.1 fresh in cc)
    (subst (λ (n : ℕ). HasEachOnce n c.args.results.now) (sym c.loop-task.auto.marks) once)
