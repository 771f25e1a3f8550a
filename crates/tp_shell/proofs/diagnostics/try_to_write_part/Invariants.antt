use Rattle.std.{proofs.Common.{◌≤◌, length, take}, specs.Io.KnownBytes.Appends}
use Rattle.tp_shell.proofs.diagnostics.try_to_write_part.Given as goal

abbrev pub invariant-loop : goal.invariant-loop
invariant-loop g l = record {
  within : l.written ≤ length l.text;
  taken : Appends (g.W.Write.contents l.fn.writer) (g.W.Write.contents l.writer) (take l.written l.text);
}
