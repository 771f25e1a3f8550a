use Rattle.tp_slots.proofs.Moves.{◌∙◌, ap, length, ◌∷◌, [], arith, length-append, last_block}
use Rattle.tp_slots.proofs.blocks.free_blocks.Goals as goal

pub deallocate-requires : goal.deallocate-requires
deallocate-requires g c =
    let last = last_block c.args.alloc c.loop-block.blocks.items c.pop.new.self.items c.in-Some.block c.loop-block.cells.cells
    c.len.result c.loop-block.invariant.each_block c.loop-block.invariant.cells c.in-Some.ensures.items
    (omega (arith, c.len.ensures, c.pop.new.self.ok)) in
    (omega arith, c.split_off-last.ensures.given ∙ last.3, last.1.at, last.1.len, last.1.alloc_is)

pub loop-block-preserved : goal.loop-block-preserved
loop-block-preserved g c =
    let last = last_block c.args.alloc c.loop-block.blocks.items c.pop.new.self.items c.in-Some.block c.loop-block.cells.cells
    c.len.result c.loop-block.invariant.each_block c.loop-block.invariant.cells c.in-Some.ensures.items
    (omega (arith, c.len.ensures, c.pop.new.self.ok)) in
    record {
      each_block = last.0;
      most = omega (
        arith,
        c.loop-block.invariant.most,
        ap length c.in-Some.ensures.items,
        length-append c.pop.new.self.items (c.in-Some.block ∷ []),
      );
      cells = c.split_off-last.ensures.kept ∙ last.2;
    }
