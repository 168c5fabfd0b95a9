mod Listing
mod Scanning
mod SetReading
pub mod Claims
