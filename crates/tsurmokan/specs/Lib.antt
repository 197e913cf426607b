pub mod Signed
pub mod Started
