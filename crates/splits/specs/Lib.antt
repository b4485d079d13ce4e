pub mod Few
pub mod Splits
pub mod Texts
