pub mod Building
pub mod Running
pub mod Encoded
