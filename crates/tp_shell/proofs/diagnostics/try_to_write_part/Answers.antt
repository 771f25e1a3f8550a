use Rattle.std.proofs.Common.{◌+◌}
use Rattle.tp_shell.proofs.{Written.{appends_kept, begun_to, fits_more, written_more}, diagnostics.try_to_write_part.Goals.{in-Ok, in-Err}}
use Rattle.tp_shell.proofs.diagnostics.try_to_write_part.Goals as goal

pub returns-in-Ok-eq0-clause-begun : goal.returns-in-Ok-eq0-clause-begun
returns-in-Ok-eq0-clause-begun g c =
    let old = g.W.Write.contents c.args.writer.now in
    let new = g.W.Write.contents c.write.new.self in
    let took = rw c.in-Ok-eq0.is at c.write.ensures.bytes in
    begun_to old new c.args.text.now (c.loop.written + c.in-Ok-eq0.field-0)
    (written_more old (g.W.Write.contents c.loop.writer) new c.args.text.now c.loop.written c.in-Ok-eq0.field-0 c.loop.invariant.taken took)

pub returns-in-Err-2-clause-begun : goal.returns-in-Err-2-clause-begun
returns-in-Err-2-clause-begun g c =
    let old = g.W.Write.contents c.args.writer.now in
    let new = g.W.Write.contents c.write.new.self in
    begun_to old new c.args.text.now c.loop.written
    (appends_kept old (g.W.Write.contents c.loop.writer) new _ c.loop.invariant.taken c.in-Err.ensures.bytes)

pub loop-preserved : goal.loop-preserved
loop-preserved g c =
    let old = g.W.Write.contents c.args.writer.now in
    let now = g.W.Write.contents c.loop.writer in
    let new = g.W.Write.contents c.write.new.self in
    let text = c.args.text.now in
    elim c.match-write.branch [
      | in-Ok w ↦ rw w.written-is (record {
        within = fits_more text c.loop.written w.in-Ok.count c.loop.invariant.within (rw w.in-Ok.is at c.write.ensures.bound);
        taken = written_more old now new text c.loop.written w.in-Ok.count c.loop.invariant.taken (rw w.in-Ok.is at c.write.ensures.bytes);
      })
      | in-Err w ↦ rw w.written-is (record {
        within = c.loop.invariant.within;
        taken = appends_kept old now new _ c.loop.invariant.taken w.in-Err.ensures.bytes;
      })
    ]

pub returns-clause-begun : goal.returns-clause-begun
returns-clause-begun g c =
    begun_to (g.W.Write.contents c.args.writer.now) (g.W.Write.contents c.loop.writer) c.args.text.now c.loop.written c.loop.invariant.taken
