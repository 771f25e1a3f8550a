pub mod Lemmas
pub mod Finite
pub mod Gathering
