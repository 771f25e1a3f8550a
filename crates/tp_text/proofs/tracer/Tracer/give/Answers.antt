use Rattle.tp_text.proofs.Readings.{◌<◌, arith, refl, Give, few_sent, few_received, not_refused}
use Rattle.tp_text.proofs.tracer.Tracer.give.Goals as goal

pub give-given-requires-clause-sent : goal.give-given-requires-clause-sent
give-given-requires-clause-sent c =
    omega (
      arith,
      few_sent c.requires.0 c.requires.1 c.args.self.now c.args.node.0 c.requires.2 (c.requires.3.control refl).1.0 c.requires.3.few,
    )

pub give-given-requires-clause-received : goal.give-given-requires-clause-received
give-given-requires-clause-received c =
    omega (
      arith,
      few_received c.requires.0 c.requires.1 c.args.self.now c.args.node.0 c.requires.2 (c.requires.3.control refl).1.0 c.requires.3.few,
    )

pub returns : goal.returns
returns c = λ n past h may.
    let below : c.args.node.0 < n = (may.control refl).1.0 in
    record {
      some = h.some;
      nodes = h.nodes;
      over = h.over;
      wave = not_refused n past (Give c.args.node) c.give-given.result _ refl may (c.give-given.ensures.exact n past h.wave)
          (c.give-given.ensures.follows n past h.wave (h.sent c.args.node.0 below) (h.received c.args.node.0 below));
      sent = h.sent;
      received = h.received;
    }
