use Rattle.tp_slots.{proofs.CellCalls.{Cells-send, IsSend, RattleType}, specs.contracts.cells.Cells.the_row}

pub send : (R : RattleType) → IsSend R → IsSend (the_row R)
send = Cells-send
