pub mod Movable
pub mod Record
