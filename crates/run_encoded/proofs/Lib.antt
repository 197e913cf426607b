pub mod Steps
pub mod Gives
