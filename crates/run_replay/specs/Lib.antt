pub mod Moves
pub mod Places
