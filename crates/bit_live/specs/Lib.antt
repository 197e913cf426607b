pub mod Live
pub mod Left
pub mod Lowest
