-- The files of this folder.
pub mod Borrowing
pub mod Growing
pub mod Steps
