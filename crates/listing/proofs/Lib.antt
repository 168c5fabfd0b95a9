pub mod Linking
pub mod Searching
pub mod Bodies
pub mod Heads
pub mod Placing
