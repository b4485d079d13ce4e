pub mod Find
pub mod Piece
pub mod Read
