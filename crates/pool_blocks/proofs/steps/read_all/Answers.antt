use Rattle.std.proofs.{Common.{◌∙◌, ap, pos, sym, take, arith}, lemmas.List.{take_all, take_more}}
use Rattle.tp_graph.{proofs.Fits.fit-push, specs.Values.all_fit}
use Rattle.pool_blocks.proofs.steps.read_all.Goals as goal

pub loop-i-preserved : goal.loop-i-preserved
loop-i-preserved c =
    let cells = c.args.cells.now in
    rw (
      take_more cells c.loop-i.i (pos 0) (omega arith),
      ← c.read.ensures.same,
    ) (fit-push (take c.loop-i.i cells) c.read.result c.loop-i.invariant c.read.ensures.fit)

pub returns : goal.returns
returns c = ap all_fit (sym (take_all c.loop-i.i c.args.cells.now (omega arith))) ∙ c.loop-i.invariant
