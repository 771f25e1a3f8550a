use Rattle.std.{proofs.Common.{◌≡◌, Some, None, ap, sym, ◌∙◌}, specs.Result.result_err}
use Rattle.tp_node.proofs.Lemmas.{idle_finishes}
use Rattle.tp_node.proofs.local.Local.announce.Goals as goal

pub unreachable-requires : goal.unreachable-requires
unreachable-requires c =
    let none : result_err c.finish.result ≡ None =
    c.finish.ensures.refused ∙ idle_finishes c.args.self.now (sym c.is_over.ensures ∙ c.if-is_over.false) c.requires in
    let both : Some c.in_default.field-0 ≡ None = sym (ap result_err c.in_default.is) ∙ none in
    cc
