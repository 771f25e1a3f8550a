use Rattle.tp_slots.{proofs.CellCalls.{Ghosts, Deed-send, IsSend, Frees, RattleType}, specs.contracts.cells.Deed.the_row}

pub send : (R A : RattleType) (g : Ghosts A.Denot) → IsSend A → Frees g g.dealloc_token → IsSend (the_row R A g)
send R A g s = Deed-send R A g
