pub mod Levels
pub mod Controls
pub mod Bests
