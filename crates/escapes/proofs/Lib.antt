pub mod Escape
pub mod TextCount
pub mod TextPut
