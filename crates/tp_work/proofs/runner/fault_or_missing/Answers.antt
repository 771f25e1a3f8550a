use Rattle.tp_work.proofs.Lemmas.{◌≡◌, ◌∙◌, ap, subst, sym, option_or, unwrap_or, Option, Some, Refusal, Missing, BoardState, first_or}
use Rattle.tp_work.proofs.runner.fault_or_missing.Goals as goal

pub returns-clause-fault : goal.returns-clause-fault
returns-clause-fault g c =
    let now = c.args.board.now.fault in
    let same = c.unwrap_or-fault.ensures ∙ ap (λ (o : Option Refusal). unwrap_or o Missing) c.fault.ensures in
    ap (λ (b : BoardState). b.fault) c.set_fault.ensures
    ∙ subst (λ (e : Refusal). option_or now (Some e) ≡ Some e) (sym same) (first_or now Missing)
