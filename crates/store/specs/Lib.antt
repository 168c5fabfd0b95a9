pub mod Entries
pub mod Notes
pub mod Store
