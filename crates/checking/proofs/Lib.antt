pub mod Walks
pub mod Refusals
pub mod Answers
pub mod Passing
pub mod Parts
pub mod Claims
