pub mod Lists
pub mod Completed
pub mod Answers
pub mod Range
pub mod Claims
pub mod Calls
