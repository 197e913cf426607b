pub mod Replies
pub mod Pieces
pub mod Ends
pub mod LongLines
