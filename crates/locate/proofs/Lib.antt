pub mod Unranked
pub mod Covering
pub mod Types
pub mod Steps
pub mod Stopping
pub mod Locating
