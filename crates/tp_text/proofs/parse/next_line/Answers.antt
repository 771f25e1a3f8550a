use Rattle.tp_text.proofs.Readings.{no_line_keyword}
use Rattle.tp_text.proofs.parse.next_line.Goals as goal

pub returns-in_err-keyword : goal.returns-in_err-keyword
returns-in_err-keyword c = rw c.from_residual.ensures (no_line_keyword c.args.version _ _ _ c.first_word.ensures c.in_err-keyword.ensures)
