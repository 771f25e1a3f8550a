use Rattle.tp_text.proofs.Readings.{◌≤◌, length, Consumes, MAX_TEXT}
use Rattle.tp_text.proofs.input.read_text.Given as goal

abbrev pub invariant-loop : goal.invariant-loop
invariant-loop g l = record {
  taken : Consumes (g.R.Read.remaining l.fn.reader) (g.R.Read.remaining l.reader) l.text.items;
  fits : length l.text.items ≤ MAX_TEXT;
}
