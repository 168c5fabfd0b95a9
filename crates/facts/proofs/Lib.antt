pub mod Sets
pub mod Adding
