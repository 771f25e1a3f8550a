use Rattle.std.proofs.Common.{subst, sym}
use Rattle.tp_cli.{proofs.Ending.unanswered, specs.Texts.IsTextTo}
use Rattle.tp_cli.proofs.text.TextKind.answer.Goals as goal

pub returns-in-Script-clause-why : goal.returns-in-Script-clause-why
returns-in-Script-clause-why g c =
    unanswered c.args.self _ _ c.sim.result c.sim.ensures.too_long (λ failed.
    let m = c.sim.ensures.computed failed in
    (m.0, m.2, (m.1, m.3, subst (λ kind. IsTextTo kind m.1 m.0 m.2) (sym c.in-Script.is) m.4)))

pub returns-in-Trace-clause-why : goal.returns-in-Trace-clause-why
returns-in-Trace-clause-why g c =
    unanswered c.args.self _ _ c.audit.result c.audit.ensures.too_long (λ failed.
    let m = c.audit.ensures.computed failed in
    (m.0, m.2, (m.1, m.3, subst (λ kind. IsTextTo kind m.1 m.0 m.2) (sym c.in-Trace.is) m.4)))
