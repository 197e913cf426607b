pub mod Encodings
pub mod Widths
pub mod Texts
pub mod Replies
pub mod Sayings
pub mod Told
pub mod Made
