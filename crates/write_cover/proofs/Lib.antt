pub mod RowTexts
pub mod Whole
pub mod Length
