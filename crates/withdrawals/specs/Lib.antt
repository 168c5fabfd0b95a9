pub mod List
pub mod Cut
pub mod Source
pub mod Conditions
pub mod Samples
