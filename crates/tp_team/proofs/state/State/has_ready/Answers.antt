use Rattle.tp_team.proofs.Lemmas.{sym, ◌∙◌, ready_test}
use Rattle.tp_team.proofs.state.State.has_ready.Goals as goal

pub returns-then-is_started : goal.returns-then-is_started
returns-then-is_started c =
    ready_test c.args.self.now c.ready.result c.ready.ensures (sym c.is_started.ensures ∙ c.if-is_started.true) c.ready_is_this.ensures
