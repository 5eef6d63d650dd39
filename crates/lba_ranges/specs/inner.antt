pub mod HeldBlocks
pub mod Runs
pub mod Denoted
pub mod Status
