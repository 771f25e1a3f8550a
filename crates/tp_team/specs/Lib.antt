pub mod Refusals
pub mod State
pub mod Calls
pub mod Laws
