pub mod Fields
pub mod Lines
pub mod Judged
pub mod Same
pub mod Length
