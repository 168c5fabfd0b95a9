pub mod Closure
pub mod Stores
