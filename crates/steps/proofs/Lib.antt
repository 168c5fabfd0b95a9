pub mod Counting
pub mod Links
pub mod Deciding
pub mod Judging
