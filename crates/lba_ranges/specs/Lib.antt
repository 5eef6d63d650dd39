pub mod HeldBlocks
pub mod Denoted
pub mod Writings
pub mod Versions
pub mod Status
pub mod Lending
pub mod inner
