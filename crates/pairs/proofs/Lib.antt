pub mod Gaining
pub mod Lists
pub mod OneHead
