pub mod Heads
pub mod Joins
pub mod Spans
