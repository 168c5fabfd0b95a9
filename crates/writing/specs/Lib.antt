pub mod Columns
pub mod Rows
pub mod Placing
