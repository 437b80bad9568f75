pub mod Below
pub mod Bits
pub mod Renumbering
pub mod Rows
pub mod Entries
