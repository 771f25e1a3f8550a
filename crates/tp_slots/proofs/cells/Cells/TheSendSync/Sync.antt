use Rattle.tp_slots.{proofs.CellCalls.{Cells-sync, IsSync, RattleType}, specs.contracts.cells.Cells.the_row}

pub sync : (R : RattleType) → IsSync R → IsSync (the_row R)
sync = Cells-sync
