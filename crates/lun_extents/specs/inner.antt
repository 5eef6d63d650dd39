pub mod Extents
pub mod Runs
