use Rattle.tp_shell.proofs.Written.{begun_in_parts, part_written}
use Rattle.tp_shell.proofs.diagnostics.try_to_write.Goals as goal

pub returns-in_err-try_to_write_part-clause-begun : goal.returns-in_err-try_to_write_part-clause-begun
returns-in_err-try_to_write_part-clause-begun g c =
    begun_in_parts (λ part. part.now) c.args.parts.now c.loop-part.part-index _ c.as_bytes.result.now c.as_bytes.ensures.value
    c.loop-part-test.true (g.W.Write.contents c.args.writer.now) (g.W.Write.contents c.loop-part.writer)
    (g.W.Write.contents c.try_to_write_part.new.writer) c.loop-part.invariant c.try_to_write_part.ensures.begun

pub loop-part-preserved : goal.loop-part-preserved
loop-part-preserved g c =
    part_written (λ part. part.now) c.args.parts.now c.loop-part.part-index _ c.as_bytes.result.now c.as_bytes.ensures.value
    c.loop-part-test.true (g.W.Write.contents c.args.writer.now) (g.W.Write.contents c.loop-part.writer)
    (g.W.Write.contents c.try_to_write_part.new.writer) c.loop-part.invariant c.in_ok-try_to_write_part.ensures.whole
