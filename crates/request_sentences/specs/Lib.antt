pub mod RequestSentences
pub mod Named
pub mod RequestWords
