pub mod Citing
pub mod Spans
pub mod Passing
