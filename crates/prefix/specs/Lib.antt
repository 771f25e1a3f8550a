pub mod Prefixes
pub mod Faults
