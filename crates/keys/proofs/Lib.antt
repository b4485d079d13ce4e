pub mod GoodKeys
pub mod Labels
pub mod Lowered
