use Rattle.tp_text.proofs.Readings.{arith, refl, subst, rules, common_steps, present, MayFollow, few_sent, few_received, sender, receiver}
use Rattle.tp_text.proofs.Readings.{sent_one, received_one, judged_line, other_line, other_step}
use Rattle.tp_text.proofs.tracer.Tracer.line.Goals as goal

pub overflow_add-self : goal.overflow_add-self
overflow_add-self c =
    let below = sender c.requires.0 (present c.requires.1) c.args.step _ _ _ _ c.in-Send.is c.requires.3 in
    omega (arith, few_sent c.requires.0 (present c.requires.1) c.args.self.now c.in-Send.node.0 c.requires.2 below c.requires.3.few)

pub overflow_add-self-in-Recv : goal.overflow_add-self-in-Recv
overflow_add-self-in-Recv c =
    let below = receiver c.requires.0 (present c.requires.1) c.args.step _ _ _ c.in-Recv.is c.requires.3 in
    omega (arith, few_received c.requires.0 (present c.requires.1) c.args.self.now c.in-Recv.node.0 c.requires.2 below c.requires.3.few)

pub returns-in-Judge-clause-told : goal.returns-in-Judge-clause-told
returns-in-Judge-clause-told c = λ n past h may.
    judged_line n past c.args.step _ c.in-Judge.is
    (c.judge.ensures.told n (present past) h (subst (MayFollow n (present past)) c.in-Judge.is may))

pub returns-in-Send-clause-followed : goal.returns-in-Send-clause-followed
returns-in-Send-clause-followed c = λ n past h may.
    sent_one n past c.args.step c.in-Send.node c.in-Send.field-1 c.in-Send.field-2 c.in-Send.field-3 c.args.self.now _
    c.in-Send.is h may (search rules) refl

pub returns-in-Recv-clause-followed : goal.returns-in-Recv-clause-followed
returns-in-Recv-clause-followed c = λ n past h may.
    received_one n past c.args.step c.in-Recv.node c.in-Recv.field-1 c.in-Recv.field-2 c.args.self.now _
    c.in-Recv.is h may (grind (arith, common_steps)) refl

pub returns-in_default : goal.returns-in_default
returns-in_default c = record {
  told = λ n past _ _. other_line n past c.args.step c.in_default.not-Judge;
  followed = λ n past h _.
      other_step n past c.args.step c.args.self.now h c.in_default.not-Send c.in_default.not-Recv c.in_default.not-Start
      c.in_default.not-Down
      c.in_default.not-Give c.in_default.not-Up c.in_default.not-Judge c.in_default.not-Reopen;
}
