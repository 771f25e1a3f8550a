use Rattle.pool_blocks.proofs.Sweeps.{swept_more}
use Rattle.std.proofs.{Common.{ℤ, arith, w64, to_z, of_z}, lemmas.Int.to_z-of_z}
use Rattle.pool_blocks.proofs.rod_mix.sweep.Goals as goal

pub loop-i-preserved : goal.loop-i-preserved
loop-i-preserved c =
    let before = c.loop-i.invariant in
    let right : ℤ = to_z w64 (of_z w64 c.args.right) in
    let cell = to_z-of_z w64 c.cell_or-cell.result (record { sfits = c.cell_or-cell.type_inv }) in
    let after = to_z-of_z w64 c.cell_or-after.result (record { sfits = c.cell_or-after.type_inv }) in
    let made = to_z-of_z w64 c.mixed.result (record { sfits = c.mixed.type_inv }) in
    let step =
    swept_more (to_z w64 c.loop-i.before-bits) right c.args.own.now c.loop-i.i c.cell_or-cell.result c.mixed.result c.cell_or-after.result
    c.loop-i.made.items _ (omega arith)
    before.same before.fit c.cell_or-cell.ensures.same c.cell_or-after.ensures.same (rw (cell, after) at (c.mixed.ensures.same))
    c.mixed.ensures.small in
    record {
      same = rw (c.push_reserved.ensures.items, cell, made) step.0;
      fit = rw (c.push_reserved.ensures.items, made) step.1;
      long = omega (arith, before.long, c.push_reserved.ensures.len);
      room = omega (arith, before.room, c.push_reserved.ensures.capacity);
    }
