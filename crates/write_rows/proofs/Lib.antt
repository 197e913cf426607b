pub mod Counted
pub mod Kept
pub mod LeftOut
