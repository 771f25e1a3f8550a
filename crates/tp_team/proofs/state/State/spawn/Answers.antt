use Rattle.tp_base.specs.declared.refusal.Refusal.TheVariants as refusal
use Rattle.tp_team.specs.declared.refusal.TeamRefusal.TheVariants as team
use Rattle.tp_dag.specs.Calls as dag
use Rattle.tp_team.proofs.Lemmas.{◌≡◌, ℕ, Result, Err, sym, ◌∙◌, Refusal, TeamRefusal, of_pool, by_pool, err_same, own_clear, pool_exact}
use Rattle.tp_team.specs.Calls.{has_finished}
use Rattle.tp_team.proofs.state.State.spawn.Goals as goal

pub returns-in-Err-clause-checks : goal.returns-in-Err-clause-checks
returns-in-Err-clause-checks c =
    let a = c.args.self.now in
    let r = c.in-Err.refusal in
    let cs = dag.spawn_checks a.pool c.args.class c.args.inputs.now c.args.outside in
    let clear = own_clear a.fault (has_finished a, team.Pool refusal.Ended) (of_pool cs) (sym c.in_default.is ∙ c.spawn_refusal.ensures) in
    let P : TeamRefusal → Type 0 = (λ x. ◌≡◌ {A = Result ℕ TeamRefusal} (Err (team.Pool r)) (Err x)) in
    let Q : Refusal → Type 0 = (λ x. ◌≡◌ {A = Result ℕ Refusal} (Err r) (Err x)) in
    by_pool Q P _ cs (err_same r) clear c.in-Err.ensures.checks

pub returns-in-Err-clause-exact : goal.returns-in-Err-clause-exact
returns-in-Err-clause-exact c =
    let a = c.args.self.now in
    let r = c.in-Err.refusal in
    let cs = dag.spawn_checks a.pool c.args.class c.args.inputs.now c.args.outside in
    let clear = own_clear a.fault (has_finished a, team.Pool refusal.Ended) (of_pool cs) (sym c.in_default.is ∙ c.spawn_refusal.ensures) in
    pool_exact cs r clear c.in-Err.ensures.exact
