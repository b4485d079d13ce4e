pub mod Questions
pub mod Views
pub mod Replies
pub mod Places
