pub mod Covered
pub mod Failing
pub mod InPieces
pub mod Lines
pub mod Made
pub mod Next
pub mod ReadCodes
pub mod Replies
