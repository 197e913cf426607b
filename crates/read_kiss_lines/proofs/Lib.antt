pub mod Pieces
pub mod JudgedRows
