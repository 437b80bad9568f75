pub mod Network
pub mod ForProofs
pub mod Tables
pub mod Scores
pub mod Site
pub mod Reach
pub mod Renumbered
pub mod Examples
