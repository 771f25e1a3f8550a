use Rattle.pool_samples.specs.declared.any.AnyGraph.{AnyGraph}
use Rattle.std.proofs.Common.{◌≡◌, ◌∙◌, ap, subst, List, Result, length}
use Rattle.tp_cli.{proofs.Ranked.{are_run, length-graphs_to_run}, specs.Registry.{AreRunAnswers, AreSettled}}
use Rattle.tp_work.specs.declared.config.{Fault.Fault, Outcome.Outcome}
use Rattle.tp_cli.proofs.runs.run_pools.Goals as goal

pub settle-requires : goal.settle-requires
settle-requires g c =
    ap length c.deref.ensures.value ∙ c.in_ok-answers.ensures.many ∙ ap length c.in_ok-graphs.ensures
    ∙ length-graphs_to_run c.args.registry.now

pub returns-clause-ran : goal.returns-clause-ran
returns-clause-ran g c =
    let answers = c.in_ok-answers.answers.items in
    are_run c.args.config.nodes c.args.config.workers answers c.args.registry.now c.settle.new.self
    (subst (λ (graphs : List AnyGraph). AreRunAnswers c.args.config.nodes c.args.config.workers graphs answers) c.in_ok-graphs.ensures
    c.in_ok-answers.ensures)
    (subst (λ (made : List (Result Outcome Fault)). AreSettled made c.args.registry.now c.settle.new.self) c.deref.ensures.value
    c.settle.ensures)
