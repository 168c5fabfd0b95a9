pub mod Joint
pub mod Calls
