pub mod Raising
pub mod Either
pub mod Shares
pub mod Lists
pub mod Ready
pub mod Looks
pub mod Shows
