use Rattle.tp_slots.proofs.Moves.{◌≡◌, ℕ, ◌<◌, ◌≤◌, length, None, pointers_of, cell_at}
use Rattle.tp_slots.proofs.blocks.empty_cells.Given as goal

abbrev pub invariant-loop-place : goal.invariant-loop-place
invariant-loop-place g l = record {
  long : length l.cells.cells ≡ length l.initial.cells.cells;
  pointers : pointers_of l.cells.cells ≡ pointers_of l.initial.cells.cells;
  gone : (p : ℕ) → p < l.place → (cell_at l.cells.cells p).1 ≡ None;
  kept : (p : ℕ) → l.place ≤ p → cell_at l.cells.cells p ≡ cell_at l.initial.cells.cells p;
}
