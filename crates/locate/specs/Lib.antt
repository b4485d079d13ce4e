pub mod Covers
pub mod Grown
pub mod Locations
pub mod Reaches
pub mod Steps
pub mod Stops
