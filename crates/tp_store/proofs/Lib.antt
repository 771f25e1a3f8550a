-- The lemmas: each file has the next one below it. Crates above cite `Contents` and `Counting`, too.
pub mod Changes
pub use Rattle.tp_store.proofs.Changes.Keeping.Contents as Contents
pub use Rattle.tp_store.proofs.Changes.Keeping.Contents.Counting as Counting
