use Rattle.tp_text.proofs.Readings.{flaw_answered, flawed_read, whole_told}
use Rattle.tp_text.proofs.reading.taken_off.Goals as goal

pub returns-then-is_flawed-clause-ok : goal.returns-then-is_flawed-clause-ok
returns-then-is_flawed-clause-ok c = λ bytes lines trace knows. (
  flaw_answered c.args.version bytes c.args.nodes lines c.args.auditor.now c.args.auditor.now.flaw _ _
      c.if-is_flawed.ensures trace knows c.in_ok-complaint.ensures,
  flawed_read c.args.version bytes c.args.nodes lines c.args.auditor.now c.in_ok-steps.steps.items trace knows c.in_ok-steps.ensures,
)

pub returns-then-is_flawed-clause-told : goal.returns-then-is_flawed-clause-told
returns-then-is_flawed-clause-told c =
    whole_told c.args.version c.args.nodes c.requires.0 c.args.auditor.now c.args.auditor.now.flaw c.in_ok-steps.steps.items _ _
    c.if-is_flawed.ensures c.requires.1 c.in_ok-steps.ensures c.in_ok-complaint.ensures
