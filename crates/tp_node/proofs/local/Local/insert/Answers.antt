use Rattle.{std.proofs.lemmas.Result.err_from_is_err_and, tp_node.proofs.Lemmas.{sym, ap, ◌∙◌, unwrap_or, NoMemory, insertion_is}}
use Rattle.tp_node.proofs.local.Local.insert.Goals as goal

pub returns-in_err-insert-clause-refused : goal.returns-in_err-insert-clause-refused
returns-in_err-insert-clause-refused c =
    let p = err_from_is_err_and c.from_residual.result c.from_residual.ensures.1 in
    let is = insertion_is c.args.self.now c.self.inside.store.value c.args.task (ap (λ l. l.store) (sym c.self.view_is))
    (sym c.is_known.ensures ∙ c.if-is_known.false) c.pending.result c.pending.ensures.pending c.if-pending-eq0.false in
    rw (p.1, p.2) (c.in_err-insert.ensures.refusal ∙ ap (λ o. unwrap_or o NoMemory) is)
