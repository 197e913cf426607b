pub mod Moving
pub mod Reading
pub mod Answered
