use Rattle.std.proofs.lemmas.Result.{IfOk-weaker}
use Rattle.tp_cli.proofs.Several.{answers_in_order}
use Rattle.tp_cli.proofs.pools.answers_of.Goals as goal

pub returns-clause-ran : goal.returns-clause-ran
returns-clause-ran g c =
    IfOk-weaker c.run_pools.result _ _
    (λ answers ran graphs is. answers_in_order c.args.config.nodes c.args.config.workers graphs answers.items c.args.registry _ is ran)
    c.run_pools.ensures.ran
