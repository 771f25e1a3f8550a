use Rattle.{std.proofs.Common.{IfErr, IfOk, subst}, tp_work.specs.Outcomes.{IsFault, IsOutcome}}
use Rattle.tp_work.proofs.counted_run.run_pool_told.Goals as goal

pub returns-clause-outcome : goal.returns-clause-outcome
returns-clause-outcome g c =
    subst (λ graph. IfOk c.run_pool.result (IsOutcome c.args.config.nodes c.args.config.workers (g.G.Graph.meaning graph)))
    c.new-counted.ensures c.run_pool.ensures.outcome

pub returns-clause-fault : goal.returns-clause-fault
returns-clause-fault g c =
    subst (λ graph. IfErr c.run_pool.result (IsFault c.args.config.nodes (g.G.Graph.meaning graph))) c.new-counted.ensures
    c.run_pool.ensures.fault
