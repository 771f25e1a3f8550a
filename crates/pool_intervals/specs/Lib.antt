pub mod IntervalGraphs
pub mod IntervalLaws
pub mod Intervals
pub mod Rows
pub mod Splits
pub mod MatrixChains
