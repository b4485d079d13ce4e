pub mod Compare
pub mod Fuel
pub mod Numbers
pub mod Parts
pub mod Steps
pub mod WildNames
