pub mod Information
pub mod Parts
pub mod Statuses
