pub mod Asked
pub mod Requests
pub mod Judging
pub mod Claims
