pub mod Ancestors
pub mod Lengths
pub mod Related
