pub mod Refusals
pub mod Format
pub mod Reading
pub mod Values
pub mod Conditions
pub mod Samples
