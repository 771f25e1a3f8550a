use Rattle.tp_text.proofs.Readings.{refl, Judge, not_refused}
use Rattle.tp_text.proofs.tracer.Tracer.judge.Goals as goal

pub returns-clause-followed : goal.returns-clause-followed
returns-clause-followed c = λ n past h may. record {
  some = h.some;
  nodes = h.nodes;
  over = h.over;
  wave = not_refused n past Judge c.judge.result _ refl may (c.judge.ensures.exact n past h.wave)
      (c.judge.ensures.follows n past h.wave may.two_tell);
  sent = h.sent;
  received = h.received;
}
