use Rattle.tp_core.proofs.Lemmas.{◌∙◌, sym, waves_few}
use Rattle.tp_core.proofs.accepting.Core.start.Goals as goal

pub control-requires-clause-few : goal.control-requires-clause-few
control-requires-clause-few c start =
    waves_few c.self.invariant c.self.view_is (sym c.is_out_of_waves.ensures ∙ c.if-is_out_of_waves.false)
