use Rattle.pool_samples.proofs.Keeping.{arith, row_joined}
use Rattle.pool_samples.proofs.product.make_tile.Goals as goal

pub loop-r-preserved : goal.loop-r-preserved
loop-r-preserved c =
    let rows = c.loop-r.invariant in
    let row = c.push_row.ensures in
    record {
      same = row_joined c.args.side c.args.seed c.args.i c.args.j c.args.k c.loop-r.r c.loop-r.made.items c.push_row.new.made.items
          rows.same row.items;
      fit = row.fit;
      long = omega (arith, rows.long, row.len);
      room = omega (arith, rows.room, row.capacity);
    }
