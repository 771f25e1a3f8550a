use Rattle.tp_text.proofs.Readings.{no_step_behind}
use Rattle.tp_text.proofs.parse.step_behind.Goals as goal

pub returns-in_err-step_named : goal.returns-in_err-step_named
returns-in_err-step_named c =
    rw c.from_residual-in_err-step_named.ensures
    (no_step_behind c.args.version _ c.args.keyword c.in_ok-operands.operands c.in_ok-operands.rest.now c.in_ok-operands.ensures
    c.in_err-step_named.ensures)
