use Rattle.gerfmuod.proofs.Steps.{◌≡◌, ◌∙◌, ap, length, refl, take, take_min, CoreState, taken_by_call}
use Rattle.gerfmuod.proofs.batch.steps.Goals as goal

pub returns : goal.returns
returns c =
    let steps = c.args.steps.now in
    let room = c.args.answers.now in
    let entered = c.if-not-enter.ensures.entered refl in
    let before : c.slot.inside.room ≡ c.args.slot.now.core = ap (λ (s : CoreState). s.core) (c.slot.view_is ∙ entered.1) in
    let given : take c.min-length.result steps ≡ take (length room) steps =
    ap (λ k. take k steps) c.min-length.ensures ∙ take_min (length room) steps in
    let after = c.leave.ensures in
    taken_by_call steps _ room c.args.slot.now c.leave.new.self c.slot.inside.room c.take_steps-count.result c.take_steps-count.new.answers
    given before entered.0 (rw after refl) (rw after c.take_steps-count.ensures)
