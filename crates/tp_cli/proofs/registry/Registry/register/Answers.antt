use Rattle.std.proofs.Common.{rules, ◌≡◌, Result, Err, IfErr, subst, sym}
use Rattle.tp_base.specs.declared.{ids.PoolId.PoolId, refusal.Refusal.{Refusal, TheVariants.BadSpec}}
use Rattle.tp_cli.specs.Registry.{IsUnregistered}
use Rattle.tp_cli.proofs.registry.Registry.register.Goals as goal

pub returns-clause-registered : goal.returns-clause-registered
returns-clause-registered c = (c.in_ok-graph.graph, search rules, search rules, search rules)

pub returns-in_err-graph-clause-why : goal.returns-in_err-graph-clause-why
returns-in_err-graph-clause-why c =
    let is : c.from_residual.result ≡ Err BadSpec = search rules in
    subst (λ (r : Result PoolId Refusal). IfErr r (IsUnregistered c.args.self.now c.args.name.now c.args.spec.now)) (sym is)
    (λ graph word. let named = c.in_err-graph.ensures.named graph word in cc)

pub returns-in_err-name-clause-refusal : goal.returns-in_err-name-clause-refusal
returns-in_err-name-clause-refusal c = search rules

pub returns-in_err-push-clause-refusal : goal.returns-in_err-push-clause-refusal
returns-in_err-push-clause-refusal c = search rules
