-- The lemmas and the theorems, each file inside the one that is built on it.
pub mod Network
pub mod TaskPool
