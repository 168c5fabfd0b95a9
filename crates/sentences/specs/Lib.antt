pub mod Words
pub mod Filling
