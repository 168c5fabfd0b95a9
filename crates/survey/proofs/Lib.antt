pub mod Shift
pub mod Insertion
pub mod Holds
pub mod Gathering
pub mod Surveying
pub mod Outcomes
