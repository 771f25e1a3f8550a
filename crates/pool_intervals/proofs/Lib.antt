pub mod Shapes
pub mod Tables
pub mod Least
pub mod Bracketings
pub mod MatrixCosts
