pub mod FileSentences
pub mod Named
pub mod FileWords
