use Rattle.tp_core.proofs.Lemmas.{◌≡◌, None, IsDue, nodes_of, refusal_of, present, due_passes, is_taken, one_taken, stands}
use Rattle.tp_core.proofs.{Lemmas.{told_as, told_reply}, accepting.settling.take_due.Goals.After-next_step-step}
use Rattle.tp_core.proofs.accepting.settling.take_due.Goals as goal

due : (c : After-next_step-step) → IsDue (nodes_of c.args.wave.now) (present c.args.steps.now.steps) c.next_step-step.result
due c = c.next_step-step.ensures.due (nodes_of c.args.wave.now) (present c.args.steps.now.steps) (stands c.requires.settling)

none : (c : After-next_step-step) → refusal_of (nodes_of c.args.wave.now) c.args.steps.now.steps c.next_step-step.result ≡ None
none c = due_passes c.next_step-step.result c.requires.settling c.next_step-step.ensures.control (due c)

pub advance-requires-clause-waves : goal.advance-requires-clause-waves
advance-requires-clause-waves c = (nodes_of c.args.wave.now, c.args.steps.now.steps, c.requires.settling.waves)

pub unwrap-requires : goal.unwrap-requires
unwrap-requires c =
    let n = nodes_of c.args.wave.now in
    let past = c.args.steps.now.steps in
    is_taken n past c.next_step-step.result c.advance.result c.advance.new.wave (c.advance.ensures n past c.requires.settling.waves)
    (none (goal.at.unwrap-requires c).After-next_step-step)

pub returns-clause-taken : goal.returns-clause-taken
returns-clause-taken c =
    let n = nodes_of c.args.wave.now in
    let past = c.args.steps.now.steps in
    let step = c.next_step-step.result in
    let s = c.requires.settling in
    let at = (goal.at.returns-clause-taken c).After-next_step-step in
    let control = c.next_step-step.ensures.control in
    let told = rw c.unwrap.ensures at (c.advance.ensures n past s.waves) in
    one_taken c.args.steps.now.steps step s control (due at) c.push.ensures.pushed.steps told.2
    (told_as n past step _ c.over.ensures told.1 (told_reply n past step control s.not_ended))
