use Rattle.pool_kernels.proofs.check.check_task.Goals as goal

pub returns-in-Err-check_feeds-clause-refused : goal.returns-in-Err-check_feeds-clause-refused
returns-in-Err-check_feeds-clause-refused g c = λ n reached. c.in-Err-check_feeds.ensures.refused n reached c.in-Ok.ensures.fed
