use Rattle.tp_slots.proofs.Moves.{◌≡◌, ◌+◌, ◌≤◌, ◌++◌, type_size, vec_len, vec_capacity, pointers_from, pointers_in}
use Rattle.tp_slots.specs.contracts.{blocks.list_cells.T-row, chains.Slot.the_row}
use Rattle.tp_slots.proofs.blocks.list_cells.Given as goal

abbrev pub invariant-loop-index : goal.invariant-loop-index
invariant-loop-index g l = record {
  room : vec_len l.table + 256 ≤ vec_capacity l.table + l.index;
  listed : pointers_in l.table.items ≡ pointers_in l.initial.table.items
      ++ pointers_from (type_size (the_row (T-row g.row.T))) l.at.ptr l.index;
}
