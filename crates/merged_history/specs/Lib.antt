pub mod Merged
pub mod Own
pub mod Passes
pub mod PassRules
pub mod Resumed
pub mod inner
pub mod Seats
