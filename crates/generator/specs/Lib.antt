pub mod Settings
pub mod Rounds
pub mod Generated
pub mod WellFormed
