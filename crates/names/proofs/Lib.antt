pub mod Cut
pub mod Holding
pub mod Label
pub mod Parts
pub mod Wire
