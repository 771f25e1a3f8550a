-- The files of this folder.
pub mod Edges
pub mod Chains
pub mod State
pub mod Calls
pub mod Kept
pub mod Laws
