pub mod Ends
pub mod Surveying
