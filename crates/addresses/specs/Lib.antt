pub mod Address
pub mod Addresses
pub mod HeldAddress
