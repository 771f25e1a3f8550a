pub mod Command
pub mod Endings
pub mod Statuses
pub mod Streams
pub mod Texts
