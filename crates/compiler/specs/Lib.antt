pub mod Compiled
pub mod FirstLine
pub mod Judged
pub mod Sized
