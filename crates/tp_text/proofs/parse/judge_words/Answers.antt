use Rattle.tp_text.proofs.Readings.{not_plain, no_words, no_operands_words, no_wave_words, ended_is}
use Rattle.tp_text.proofs.parse.judge_words.Goals as goal

pub returns-in_err-operands : goal.returns-in_err-operands
returns-in_err-operands c =
    rw c.from_residual-in_err-operands.ensures
    (no_words c.args.text.now _ (not_plain _ c.in_default.ensures.cases)
    (ended_is _ _ c.in_ok-strip_prefix.ensures.cases.0 c.in_ok-strip_prefix.ensures.cases.1)
    (no_operands_words _ c.in_err-operands.ensures))

pub returns-in_err-wave_number : goal.returns-in_err-wave_number
returns-in_err-wave_number c =
    rw c.from_residual-in_err-wave_number.ensures
    (no_words c.args.text.now _ (not_plain _ c.in_default.ensures.cases)
    (ended_is _ _ c.in_ok-strip_prefix.ensures.cases.0 c.in_ok-strip_prefix.ensures.cases.1)
    (no_wave_words _ c.in_ok-operands.operands c.in_ok-operands.rest.now c.in_ok-operands.ensures c.in_err-wave_number.ensures))
