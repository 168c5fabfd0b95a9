pub mod Answering
pub mod Marks
pub mod Steps
