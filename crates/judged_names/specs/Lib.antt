pub mod NameCounts
pub mod Views
