pub mod Lowering
pub mod Ranking
pub mod Related
pub mod KeyRanks
