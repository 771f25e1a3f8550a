use Rattle.tp_slots.proofs.Moves.{◌≡◌, ◌≤◌, length, All, IsBlock, rows_of, empty_at}
use Rattle.tp_slots.proofs.blocks.free_blocks.Given as goal

abbrev pub invariant-loop-block : goal.invariant-loop-block
invariant-loop-block g l = record {
  each_block : All (IsBlock l.initial.alloc) l.blocks.items;
  most : length l.blocks.items ≤ 256;
  cells : l.cells.cells ≡ empty_at (rows_of l.blocks.items);
}

abbrev pub decreases-loop-block : goal.decreases-loop-block
decreases-loop-block g l = goal.left-loop-block g l
