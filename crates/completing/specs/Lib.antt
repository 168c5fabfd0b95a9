pub mod Completing
pub mod Conditions
pub mod Working
