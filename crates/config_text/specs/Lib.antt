pub mod Meaning
pub mod Files
pub mod Lines
pub mod inner
