pub mod Labels
pub mod Reversed
