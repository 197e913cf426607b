pub mod Columns
pub mod Masks
pub mod Filling
pub mod Meeting
pub mod Answers
