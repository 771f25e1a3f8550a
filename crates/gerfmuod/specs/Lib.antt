-- The files of this folder.
pub mod Calls
pub mod CoreSlot
pub mod Links
pub mod Meanings
pub mod Part
pub mod Tasks
pub mod Wire
