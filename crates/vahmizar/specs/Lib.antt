pub mod Promises
pub mod Joining
pub mod Towns
