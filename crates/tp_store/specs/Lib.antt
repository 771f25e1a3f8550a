pub mod Content
pub mod Codes
pub mod Sound
pub mod Items
pub mod Entries
pub mod Kept
