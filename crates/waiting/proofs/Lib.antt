pub mod Giving
pub mod Uniting
pub mod Linking
pub mod Gathering
