use Rattle.pool_matrix.proofs.Refused.{◌≡◌, ◌≤◌, ◌+◌, ◌-◌, ◌*◌, ◌++◌, length, take, drop, ap, ◌∙◌, arith, rules, take_at, row_inside}
use Rattle.pool_matrix.proofs.Refused.{begun_long, tile_step, tile_fails, tile_done}
use Rattle.pool_matrix.proofs.tile.make_tile.Goals as goal

pub slice_bounds-sums-end : goal.slice_bounds-sums-end
slice_bounds-sums-end c =
    let m = c.args.matrices in
    let long = begun_long m.order c.args.side m.left.now m.right.now c.args.i c.args.j c.args.k c.args.before.now c.in_ok-made.made.items
    c.requires.some c.in_ok-made.ensures in
    let last = row_inside c.loop-row.row c.args.side c.loop-row-test.true in
    let room : c.loop-row.row * c.args.side + c.args.side ≤ length c.loop-row.tile =
    omega (arith, long, c.loop-row.invariant.long, ap length c.as_mut_slice-tile.ensures.value, last) in
    search (rules, room)

pub returns-in_err-add_each : goal.returns-in_err-add_each
returns-in_err-add_each c =
    let m = c.args.matrices in
    let side = c.args.side in
    let row = c.loop-row.row in
    let begun = rw (← c.as_mut_slice-tile.ensures.value) at (c.in_ok-made.ensures) in
    let failed = c.in_err-add_each.ensures.1 in
    let w : row * side + side - row * side ≡ side = omega arith in
    let none = tile_fails m.order side m.left.now m.right.now c.args.i c.args.j c.args.k c.args.before.now c.as_mut_slice-tile.result.now
    c.requires.some begun row (row * side + side - row * side) c.loop-row.tile c.loop-row-test.true w c.loop-row.invariant failed in
    search rules

pub loop-row-preserved : goal.loop-row-preserved
loop-row-preserved c =
    let m = c.args.matrices in
    let side = c.args.side in
    let row = c.loop-row.row in
    let begun = rw (← c.as_mut_slice-tile.ensures.value) at (c.in_ok-made.ensures) in
    let made = c.in_ok-add_each.ensures in
    let w : row * side + side - row * side ≡ side = omega arith in
    tile_step m.order side m.left.now m.right.now c.args.i c.args.j c.args.k c.args.before.now c.as_mut_slice-tile.result.now
    c.requires.some begun row (row * side + side - row * side) c.loop-row.tile c.loop-row-test.true w c.loop-row.invariant
    c.add_each.new.sums made

pub returns : goal.returns
returns c =
    let m = c.args.matrices in
    let begun = rw (← c.as_mut_slice-tile.ensures.value) at (c.in_ok-made.ensures) in
    let rows : c.loop-row.row ≡ c.args.side = omega arith in
    let whole : take c.in_ok-made.made.len (c.loop-row.tile ++ drop (length c.loop-row.tile) c.in_ok-made.made.items) ≡ c.loop-row.tile =
    take_at c.loop-row.tile (drop (length c.loop-row.tile) c.in_ok-made.made.items) c.in_ok-made.made.len (c.loop-row.auto.tile
    ∙ c.as_mut_slice-tile.ensures.len) in
    rw whole
    (tile_done m.order c.args.side m.left.now m.right.now c.args.i c.args.j c.args.k c.args.before.now c.as_mut_slice-tile.result.now
    c.requires.some begun c.loop-row.row c.loop-row.tile rows c.loop-row.invariant)
