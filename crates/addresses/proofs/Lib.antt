pub mod Forms
pub mod GroupsBytes
pub mod HoldingAddress
