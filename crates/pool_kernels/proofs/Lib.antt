pub mod Tables
pub mod Events
pub mod Gathers
pub mod Cells
pub mod Rows
pub mod Sound
pub mod Patterns
