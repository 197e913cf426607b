pub mod Adding
pub mod Parted
pub mod Lines
