pub mod Bodies
pub mod Unreadable
