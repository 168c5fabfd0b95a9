pub mod Given
pub mod Claims
