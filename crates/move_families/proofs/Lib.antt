pub mod Lists
pub mod Whole
pub mod Turn
pub mod Marked
pub mod Filling
