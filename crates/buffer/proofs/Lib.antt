pub mod Front
pub mod Puts
