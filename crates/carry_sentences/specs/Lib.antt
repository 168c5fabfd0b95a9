pub mod CarrySentences
pub mod CarryWords
