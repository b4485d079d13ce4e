pub mod Lifetimes
pub mod Picking
