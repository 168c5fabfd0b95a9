pub mod CodeLaws
pub mod UseLaws
pub mod Forming
