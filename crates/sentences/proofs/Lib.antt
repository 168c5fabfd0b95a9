mod Lines
mod Fitting
mod Progress
pub mod First
pub mod Counting
