pub mod Marking
pub mod Numbering
pub mod Handing
pub mod Keeping
pub mod Writing
