use Rattle.tp_dag.proofs.pool.Pool.next.Goals as goal

pub returns-in-Some-clause-waits : goal.returns-in-Some-clause-waits
returns-in-Some-clause-waits c = λ started none over. absurd (none c.in-Some.task c.in-Some.ensures.some.ready)
