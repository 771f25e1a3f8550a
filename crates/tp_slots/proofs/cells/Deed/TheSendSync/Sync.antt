use Rattle.tp_slots.{proofs.CellCalls.{Ghosts, Deed-sync, IsSync, RattleType}, specs.contracts.cells.Deed.the_row}

pub sync : (R A : RattleType) (g : Ghosts A.Denot) → IsSync (the_row R A g)
sync = Deed-sync
