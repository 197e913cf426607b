pub mod Pieces
pub mod Tables
