pub mod Jobs
pub mod Plans
pub mod Spelling
pub mod Reading
pub mod inner
