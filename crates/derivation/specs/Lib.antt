pub mod HandedOut
pub mod Derivation
