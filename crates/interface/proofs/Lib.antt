pub mod Reading
pub mod Widths
pub mod Completed
pub mod Queried
pub mod Claims
