pub mod Carrying
pub mod Judging
pub mod Conditions
pub mod Samples
