use Rattle.tp_core.proofs.Lemmas.{◌≤◌, ◌∙◌, subst, sym, Accepted, present, accepted, outside}
use Rattle.tp_core.proofs.accepting.Core.numbers.Goals as goal

pub returns-clause-others : goal.returns-clause-others
returns-clause-others c i d h low =
    let agree = c.self.invariant in
    let beyond = subst (λ (a : Accepted). a.nodes ≤ i) (sym c.self.view_is) h in
    agree.numbers.each i d low ∙ outside c.self.inside.nodes i (present (accepted c.self.inside).steps) agree.some_node agree.is_run beyond
