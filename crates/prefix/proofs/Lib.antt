pub mod RowSums
