pub mod Laws
pub mod Growing
pub mod Values
pub mod OneAnswer
