use Rattle.tp_dag.specs.Describing as graph
use Rattle.tp_team.specs.declared.refusal.TeamRefusal.TheVariants as team
use Rattle.tp_team.proofs.Lemmas.{◌≡◌, ◌-◌, ℕ, List, Result, Err, IfSome, length, ap, subst, ◌∙◌, Refusal, PoolState, Graph, TeamRefusal}
use Rattle.tp_team.proofs.Lemmas.{State, first, of_pool, IsGraphRefusal, by_pool, err_same_at, no_fault, graph_accepted, graph_exact}
use Rattle.tp_team.{proofs.Lemmas.{unstarted, accepted_unstarted, described_started}, specs.Calls.describe_checks}
use Rattle.tp_team.proofs.team.Team.describe.Goals as goal

abbrev graph_of : List ℕ → List ℕ → List ℕ → Graph
graph_of cs os is = record { classes = cs; offsets = os; inputs = is }

pub returns-in-Err-clause-checks : goal.returns-in-Err-clause-checks
returns-in-Err-clause-checks c =
    let a = c.self.inside.state in
    let r = c.in-Err.refusal in
    let t = c.in-Err.task in
    let g = graph_of c.args.classes.now c.args.offsets.now c.args.inputs.now in
    let cs = graph.describe_checks g a.pool in
    let P : TeamRefusal → Type 0 = (λ x. ◌≡◌ {A = Result (Unit {0}) (TeamRefusal × ℕ)} (Err (team.Pool r, t)) (Err (x, 0))) in
    let Q : Refusal → Type 0 = (λ x. ◌≡◌ {A = Result (Unit {0}) (Refusal × ℕ)} (Err (r, t)) (Err (x, 0))) in
    subst (λ (a : State). IfSome (first (describe_checks g a)) P) c.self.view_is
    (by_pool Q P _ cs (λ x. err_same_at r x t) (no_fault a.fault (of_pool cs) c.in_default.is) c.in-Err.ensures.checks)

pub returns-in-Err-clause-exact : goal.returns-in-Err-clause-exact
returns-in-Err-clause-exact c =
    let g = graph_of c.args.classes.now c.args.offsets.now c.args.inputs.now in
    subst (λ (a : State). IsGraphRefusal g a (team.Pool c.in-Err.refusal) c.in-Err.task) c.self.view_is
    (graph_exact g c.self.inside.state c.in-Err.refusal c.in-Err.task c.in_default.is c.in-Err.ensures.exact)

pub invariant_of-self-2 : goal.invariant_of-self-2
invariant_of-self-2 c =
    let a = c.self.inside.state in
    let g = graph_of c.args.classes.now c.args.offsets.now c.args.inputs.now in
    let before = accepted_unstarted g a.pool (graph_accepted _ c.in_default-describe.field-0 c.in_default-describe.ensures.checks) in
    let same = ap (λ (p : PoolState). p.started) c.in_default-describe.ensures.ok in
    unstarted a c.describe.new.self a.threads (same ∙ described_started g (length g.offsets - 1) a.pool ∙ before) c.self.invariant
