pub mod Saying
pub mod Room
pub mod Steps
pub mod Ends
pub mod Flows
pub mod Small
