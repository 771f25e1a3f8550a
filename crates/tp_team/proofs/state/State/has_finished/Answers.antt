use Rattle.tp_team.proofs.Lemmas.{finished_test}
use Rattle.tp_team.proofs.state.State.has_finished.Goals as goal

pub returns-clause-finished : goal.returns-clause-finished
returns-clause-finished c = finished_test c.args.self.now c.is_over.result c.is_over.ensures
