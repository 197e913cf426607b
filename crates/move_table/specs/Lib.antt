pub mod Table
pub mod Moves
