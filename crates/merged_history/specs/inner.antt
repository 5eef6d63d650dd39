pub mod Merging
pub mod Rule
