pub mod Answering
pub mod Passes
pub mod Asking
