pub mod Plays
pub mod Machining
pub mod Differing
pub mod Checking
