use Rattle.tp_team.proofs.Lemmas.{ap, Waiting, settled}
use Rattle.tp_team.proofs.state.State.settle.Goals as goal

pub returns-clause-awake : goal.returns-clause-awake
returns-clause-awake c = settled {a = c.args.self.now} {n = c.needed-signals.result} (record {
  ended = c.has_ended-ended.result;
  says_ended = c.has_ended-ended.ensures;
  ready = c.has_ready-ready.result;
  says_ready = c.has_ready-ready.ensures;
  number = c.needed-signals.ensures.count;
  becomes = ap (λ (w : Waiting). record c.args.self.now { waiting = w }) c.signalled_by-self.ensures;
}) c.requires
