pub mod Lemmas
pub mod CountedTotals
