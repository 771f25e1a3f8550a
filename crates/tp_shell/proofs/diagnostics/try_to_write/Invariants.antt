use Rattle.std.specs.{Io.KnownBytes.Appends, List.concat, Prelude.{map, take}}
use Rattle.tp_shell.proofs.diagnostics.try_to_write.Given as goal

abbrev pub invariant-loop-part : goal.invariant-loop-part
invariant-loop-part g l =
    Appends (g.W.Write.contents l.fn.writer) (g.W.Write.contents l.writer) (concat (map (λ part. part.now) (take l.part-index l.parts)))
