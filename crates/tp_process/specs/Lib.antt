-- The files of this folder.
pub mod State
pub mod Calls
pub mod World
pub mod Epochs
pub mod Opening
pub mod Network
pub mod Tasks
pub mod Pool
