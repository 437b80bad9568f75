pub mod Listing
pub mod Roles
pub mod Answers
