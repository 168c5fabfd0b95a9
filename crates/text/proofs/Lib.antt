pub mod Decimal
pub mod Putting
pub mod Numbers
pub mod Reading
pub mod Claims
