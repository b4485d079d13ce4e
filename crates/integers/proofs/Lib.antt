pub mod IntegerStores
pub mod Sequences
