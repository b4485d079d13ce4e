mod Laid
pub mod Kept
pub mod Joined
pub mod Towns
