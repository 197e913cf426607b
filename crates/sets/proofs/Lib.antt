pub mod Members
pub mod Totals
pub mod Size
pub mod Every
pub mod Places
pub mod LowestMember
pub mod SizeMembers
pub mod OneAnswer
