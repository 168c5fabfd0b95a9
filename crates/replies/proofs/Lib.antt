pub mod Refusing
pub mod Fitting
pub mod Leaving
pub mod Files
pub mod Widths
