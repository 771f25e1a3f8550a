use Rattle.tp_team.specs.declared.refusal.TeamRefusal.TheVariants as team
use Rattle.tp_dag.specs.Calls.{outside_checks}
use Rattle.tp_team.proofs.Lemmas.{◌≡◌, ℕ, List, Some, Result, Err, IfSome, subst, ◌∙◌, Refusal, TeamRefusal, State, Check, first}
use Rattle.tp_team.proofs.Lemmas.{fault_check, of_pool, by_pool, err_same, no_fault, passes}
use Rattle.tp_team.proofs.team.Team.outside.Goals as goal

abbrev checks_of : ℕ → State → List Check
checks_of task a = fault_check a.fault (of_pool (outside_checks a.pool task))

pub returns-in-Err-clause-checks : goal.returns-in-Err-clause-checks
returns-in-Err-clause-checks c =
    let a = c.self.inside.state in
    let r = c.in-Err.refusal in
    let cs = outside_checks a.pool c.args.task in
    let P : TeamRefusal → Type 0 = (λ x. ◌≡◌ {A = Result ℕ TeamRefusal} (Err (team.Pool r)) (Err x)) in
    let Q : Refusal → Type 0 = (λ x. ◌≡◌ {A = Result (Unit {0}) Refusal} (Err r) (Err x)) in
    subst (λ (a : State). IfSome (first (checks_of c.args.task a)) P) c.self.view_is
    (by_pool Q P _ cs (err_same r) (no_fault a.fault (of_pool cs) c.in_default.is) c.in-Err.ensures.checks)

pub returns-in-Err-clause-exact : goal.returns-in-Err-clause-exact
returns-in-Err-clause-exact c =
    let a = c.self.inside.state in
    let cs = outside_checks a.pool c.args.task in
    subst (λ (a : State). first (checks_of c.args.task a) ≡ Some (team.Pool c.in-Err.refusal))
    c.self.view_is (no_fault a.fault (of_pool cs) c.in_default.is ∙ passes cs c.in-Err.refusal c.in-Err.ensures.exact)
