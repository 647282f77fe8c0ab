-- `Spelling` is what is asked of the words.
pub mod Spelling
