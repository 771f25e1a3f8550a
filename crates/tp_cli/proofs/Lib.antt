pub mod Asked
pub mod Ending
pub mod Keeping
pub mod Outputs
pub mod Ranked
pub mod Settling
pub mod Several
