use Rattle.tp_text.proofs.Readings.{no_keyword}
use Rattle.tp_text.proofs.parse.next_step.Goals as goal

pub returns-in_err-keyword_of : goal.returns-in_err-keyword_of
returns-in_err-keyword_of c = rw c.from_residual.ensures (no_keyword c.args.version _ _ _ c.first_word.ensures c.in_err-keyword_of.ensures)
