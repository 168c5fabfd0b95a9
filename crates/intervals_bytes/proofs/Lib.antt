pub mod Bounds
pub mod Replies
pub mod Minutes
pub mod Claims
