pub mod ListSentences
pub mod Named
pub mod ListWords
