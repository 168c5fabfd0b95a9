pub mod Replies
pub mod Ways
pub mod Claims
