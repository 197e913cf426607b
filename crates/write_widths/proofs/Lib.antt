pub mod Counted
pub mod Lines
pub mod Same
