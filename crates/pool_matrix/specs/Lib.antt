pub mod Matrices
pub mod Rows
pub mod MatrixLaws
pub mod Events
pub mod Faults
pub mod Outcomes
