use Rattle.std.{proofs.Common.{◌≤◌, length}, specs.Io.KnownBytes.Consumes}
use Rattle.tp_text.specs.declared.input.TheConstants.{MAX_TEXT}
use Rattle.tp_cli.proofs.kept.read_text.Given as goal

abbrev pub invariant-loop : goal.invariant-loop
invariant-loop g l = record {
  taken : Consumes (g.R.Read.remaining l.fn.reader) (g.R.Read.remaining l.reader) l.text.items;
  fits : length l.text.items ≤ MAX_TEXT;
}
