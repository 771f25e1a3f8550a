use Rattle.tp_text.specs.declared.recount.Recounted.TheVariants as recounts
use Rattle.tp_text.proofs.Readings.{subst, Refused, IsRecounted, IsAuditText, AreStepsBeforeFault, broken_read, broken_told, handed_runs}
use Rattle.tp_text.proofs.Readings.{broken_answered}
use Rattle.tp_text.proofs.reading.reading_of.Goals as goal

pub returns-in_ok-steps-in-Broken-clause-ok : goal.returns-in_ok-steps-in-Broken-clause-ok
returns-in_ok-steps-in-Broken-clause-ok c =
    let known : IsRecounted c.args.text.now (recounts.Broken c.in-Broken.nodes c.in-Broken.auditor c.in-Broken.complaint) =
    subst (IsRecounted c.args.text.now) c.in-Broken.is c.in_ok-complaint.ensures.ok in
    let refused : IsAuditText c.args.text.now Refused c.in-Broken.complaint.items =
    broken_answered known.0 c.args.text.now c.in-Broken.nodes known.1 known.2 c.in-Broken.complaint.items known.3 known.5 in
    let before : AreStepsBeforeFault c.args.text.now c.in-Broken.nodes c.in_ok-steps-in-Broken.steps.items =
    broken_read known.0 c.args.text.now c.in-Broken.nodes known.1 known.2 c.in-Broken.auditor c.in_ok-steps-in-Broken.steps.items
    known.3 known.4 c.in_ok-steps-in-Broken.ensures in
    (refused, before)

pub returns-in_ok-steps-in-Broken-clause-runs : goal.returns-in_ok-steps-in-Broken-clause-runs
returns-in_ok-steps-in-Broken-clause-runs c =
    let known : IsRecounted c.args.text.now (recounts.Broken c.in-Broken.nodes c.in-Broken.auditor c.in-Broken.complaint) =
    subst (IsRecounted c.args.text.now) c.in-Broken.is c.in_ok-complaint.ensures.ok in
    handed_runs c.in-Broken.nodes known.1 c.in-Broken.auditor c.in_ok-steps-in-Broken.steps.items known.4 c.in_ok-steps-in-Broken.ensures

pub returns-in_ok-steps-in-Broken-clause-told : goal.returns-in_ok-steps-in-Broken-clause-told
returns-in_ok-steps-in-Broken-clause-told c =
    let known : IsRecounted c.args.text.now (recounts.Broken c.in-Broken.nodes c.in-Broken.auditor c.in-Broken.complaint) =
    subst (IsRecounted c.args.text.now) c.in-Broken.is c.in_ok-complaint.ensures.ok in
    broken_told c.in-Broken.nodes known.1 c.in-Broken.auditor c.in_ok-steps-in-Broken.steps.items c.in-Broken.complaint.items known.4
    c.in_ok-steps-in-Broken.ensures known.5

pub returns-in_ok-reading-in-Whole-clause-ok : goal.returns-in_ok-reading-in-Whole-clause-ok
returns-in_ok-reading-in-Whole-clause-ok c =
    let known : IsRecounted c.args.text.now (recounts.Whole c.in-Whole.version c.in-Whole.nodes c.in-Whole.auditor) =
    subst (IsRecounted c.args.text.now) c.in-Whole.is c.in_ok-complaint.ensures.ok in
    c.in_ok-reading-in-Whole.ensures.ok c.args.text.now known.0 known.1 known.2
