pub mod Lines
pub mod Means
pub mod Pieces
pub mod Replies
