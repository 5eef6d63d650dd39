pub mod Entries
pub mod Jobs
pub mod Pieces
pub mod Sought
pub mod Steps
pub mod Tables
