pub mod Worlds
pub mod Roots
pub mod Safe
pub mod Opening
pub mod Holding
pub mod Closing
pub mod inner
