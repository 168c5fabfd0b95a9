pub mod OldFormat
pub mod OldReading
pub mod Samples
pub mod OldConditions
