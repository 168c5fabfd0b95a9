mod Bytes
pub mod Words
mod Storing
mod Deciding
pub mod Policies
mod Periods
