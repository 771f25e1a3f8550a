pub mod Asked
pub mod Bounded
pub mod Written
