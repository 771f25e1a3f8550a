use Rattle.std.proofs.Common.{IfOk, subst}
use Rattle.tp_work.specs.Outcomes.{IsOutcome}
use Rattle.samples.proofs.watched.run_pool_timed.Goals as goal

pub returns : goal.returns
returns g c =
    let config = c.args.config in
    subst (λ graph. IfOk c.run_pool_counted.result (IsOutcome config.nodes config.workers (g.G.Graph.meaning graph)))
    c.new-timed.ensures c.run_pool_counted.ensures.outcome
