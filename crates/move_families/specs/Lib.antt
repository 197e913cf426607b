pub mod Swayed
pub mod Filled
pub mod Marks
