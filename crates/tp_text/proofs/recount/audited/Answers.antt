use Rattle.tp_text.specs.declared.recount.Recounted.TheVariants as recounts
use Rattle.tp_text.proofs.Readings.{subst, IsRecounted, answer_as, answer_found, broken_answered}
use Rattle.tp_text.proofs.recount.audited.Goals as goal

pub returns-in-Broken-clause-ok : goal.returns-in-Broken-clause-ok
returns-in-Broken-clause-ok c =
    let known : IsRecounted c.args.text.now (recounts.Broken c.in-Broken.field-0 c.in-Broken.field-1 c.in-Broken.complaint) =
    subst (IsRecounted c.args.text.now) c.in-Broken.is c.in_ok-complaint.ensures.ok in
    broken_answered known.0 c.args.text.now c.in-Broken.field-0 known.1 known.2 c.in-Broken.complaint.items known.3 known.5

pub returns-clause-ok : goal.returns-clause-ok
returns-clause-ok c =
    let known : IsRecounted c.args.text.now (recounts.Whole c.in-Whole.version c.in-Whole.field-1 c.in-Whole.auditor) =
    subst (IsRecounted c.args.text.now) c.in-Whole.is c.in_ok-complaint.ensures.ok in
    answer_found c.in-Whole.version c.args.text.now c.in-Whole.field-1 known.0 c.in-Whole.auditor c.in-Whole.auditor.flaw _ _
    known.1 known.2 (answer_as c.in-Whole.version c.in-Whole.auditor c.in-Whole.auditor.flaw _ _ c.in_ok-answer-in-Whole.ensures)
