pub mod Asking
pub mod Conditions
pub mod Admitting
