pub mod Pairing
pub mod Entries
pub mod Tallying
pub mod Answers
