pub mod Windows
pub mod Parts
