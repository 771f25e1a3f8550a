-- The lemmas on slots and those on raw cells; each file has the next one below it. Crates above cite `Sound` and `PlaceLists`.
pub mod Lemmas
pub mod CellCalls
pub use Rattle.tp_slots.proofs.Lemmas.Naming as Naming
pub use Rattle.tp_slots.proofs.Lemmas.Naming.Moves as Moves
pub use Rattle.tp_slots.proofs.Lemmas.Naming.Moves.Keeping.Lists.SlabItems.PlaceLists.Sound as Sound
pub use Rattle.tp_slots.proofs.Lemmas.Naming.Moves.Keeping.Lists.SlabItems.PlaceLists as PlaceLists
