use Rattle.pool_matrix.proofs.Refused.{◌*◌, tile_entry, IsPartly}
use Rattle.pool_matrix.proofs.tile.make_tile.Given as goal

abbrev pub invariant-loop-row : goal.invariant-loop-row
invariant-loop-row l =
    IsPartly (l.row * l.side) (tile_entry l.matrices.order l.side l.matrices.left.now l.matrices.right.now l.i l.j l.k l.before)
    l.initial.tile l.tile
