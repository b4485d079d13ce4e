pub mod Los
