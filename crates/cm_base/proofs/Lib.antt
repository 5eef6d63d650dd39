pub mod Spelled
pub mod Writes
pub mod Windows
pub mod Pushed
pub mod FieldLaws
pub mod PublicLaws
pub mod Parts
